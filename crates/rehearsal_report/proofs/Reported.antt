-- Lines that are told one after another.
use Rattle.std.proofs.Common.{◌≡◌, ℕ, ◌+◌, ◌<◌, List, [], ◌∷◌, ◌++◌, length, take, get_or, replicate, refl}
use Rattle.std.proofs.Common.{sym, ap, ◌∙◌, subst, arith, append_assoc}
use Rattle.std.proofs.lemmas.List.{take_more, replicate-append-replicate}
use Rattle.rehearsal_report.specs.Reports.{IsSentence, PutsBlanks, PutsPair, Reports}
use Rattle.rehearsal_report.specs.Reports.{Tells, Told}
use Rattle.rehearsal_report.specs.Reports.Told.{Because, Row, Said, Whole}

-- a line that is told is a report of that line alone
pub reports_one : (told : Told) (old new : List ℕ) → Tells told old new → Reports (told ∷ []) old new
reports_one told old new h = (new, h, refl)

-- lines and then others
pub reports_then : (tolds more : List Told) (old middle new : List ℕ) → Reports tolds old middle
    → Reports more middle new → Reports (tolds ++ more) old new
reports_then [] more old middle new h k = subst (λ (text : List ℕ). Reports more text new) h k
reports_then (told ∷ tolds) more old middle new h k = (h.0, h.1, reports_then tolds more h.0 middle new h.2 k)

-- one line more
pub reports_more : (tolds : List Told) (i : ℕ) (told : Told) (old middle new : List ℕ) → i < length tolds
    → told ≡ get_or tolds i told → Reports (take i tolds) old middle → Tells told middle new
    → Reports (take (i + 1) tolds) old new
reports_more tolds i told old middle new lt is h k =
    subst (λ (xs : List Told). Reports xs old new)
    (ap (λ (x : Told). take i tolds ++ x ∷ []) is ∙ sym (take_more tolds i told lt))
    (reports_then (take i tolds) (told ∷ []) old middle new h (reports_one told middle new k))

-- three blanks more than so many
pub three_more : (many : ℕ) (old middle new : List ℕ) → middle ≡ old ++ replicate many 32
    → new ≡ middle ++ 32 ∷ 32 ∷ 32 ∷ [] → PutsBlanks old new
three_more many old middle new h k =
    record {
      between = replicate (many + 3) 32;
      blanks = record { many = many + 3; two = omega arith; blank = refl };
      behind =
          k ∙ ap (λ (xs : List ℕ). xs ++ 32 ∷ 32 ∷ 32 ∷ []) h ∙ append_assoc old (replicate many 32) _
          ∙ ap (λ (xs : List ℕ). old ++ xs) (replicate-append-replicate many 3 32);
    }

-- two columns, with what was put between them
pub pair_put : (first second old one two new : List ℕ) → one ≡ old ++ first → PutsBlanks one two
    → new ≡ two ++ second → PutsPair first second old new
pair_put first second old one two new h blanks k =
    record {
      text = first ++ blanks.between ++ second;
      is = record { between = blanks.between; blanks = blanks.blanks; whole = refl };
      behind =
          k ∙ ap (λ (xs : List ℕ). xs ++ second) (blanks.behind ∙ ap (λ (xs : List ℕ). xs ++ blanks.between) h)
          ∙ simp append_assoc;
    }

-- a line of two columns
pub row_put : (first second old middle new : List ℕ) → PutsPair first second old middle → new ≡ middle ++ 10 ∷ []
    → Tells (Row first second) old new
row_put first second old middle new h k =
    record { text = h.text; is = h.is; behind = k ∙ ap (λ (xs : List ℕ). xs ++ 10 ∷ []) h.behind }

-- a line of two columns and a sentence
pub said_put : (first second sentence old one two three new : List ℕ) → PutsPair first second old one
    → PutsBlanks one two → IsSentence sentence → three ≡ two ++ sentence → new ≡ three ++ 10 ∷ []
    → Tells (Said first second) old new
said_put first second sentence old one two three new h blanks says k e =
    record {
      text = h.text ++ blanks.between ++ sentence;
      is =
          record {
            front = h.text;
            pair = h.is;
            between = blanks.between;
            blanks = blanks.blanks;
            sentence = sentence;
            says = says;
            whole = refl;
          };
      behind =
          e
          ∙ ap (λ (xs : List ℕ). xs ++ 10 ∷ [])
          (k
          ∙ ap (λ (xs : List ℕ). xs ++ sentence)
          (blanks.behind ∙ ap (λ (xs : List ℕ). xs ++ blanks.between) h.behind))
          ∙ simp append_assoc;
    }

-- ---- lines that are known whole, and others behind them

pub whole_put : (text old new : List ℕ) → new ≡ old ++ text ++ 10 ∷ [] → Tells (Whole text) old new
whole_put text old new h = record { text = text; is = refl; behind = h }

pub whole_then : (text : List ℕ) (tolds : List Told) (old middle new : List ℕ) → middle ≡ old ++ text ++ 10 ∷ []
    → Reports tolds middle new → Reports (Whole text ∷ tolds) old new
whole_then text tolds old middle new h k = (middle, whole_put text old middle h, k)

-- a beginning, and a sentence directly behind it
pub because_put : (beginning sentence old middle new : List ℕ) → IsSentence sentence → middle ≡ old ++ beginning
    → new ≡ middle ++ sentence ++ 10 ∷ [] → Tells (Because beginning) old new
because_put beginning sentence old middle new says h k =
    record {
      text = beginning ++ sentence;
      is = record { sentence = sentence; says = says; whole = refl };
      behind = k ∙ ap (λ (xs : List ℕ). xs ++ sentence ++ 10 ∷ []) h ∙ simp append_assoc;
    }

-- a heading, and then three blocks
pub report_put : (heading : Told) (standings refused races : List Told) (old one two three new : List ℕ)
    → Tells heading old one → Reports standings one two → Reports refused two three → Reports races three new
    → Reports (heading ∷ (standings ++ refused ++ races)) old new
report_put heading standings refused races old one two three new h k r e = (
  one,
  h,
  reports_then (standings ++ refused) races one three new
      (reports_then standings refused one two three k r) e,
)

-- four pieces in a row
pub four_put : (a b c d old one two three new : List ℕ) → one ≡ old ++ a → two ≡ one ++ b → three ≡ two ++ c
    → new ≡ three ++ d → new ≡ old ++ a ++ b ++ c ++ d
four_put a b c d old one two three new h k r e = cc
