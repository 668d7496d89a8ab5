-- The lines of the made line's trains are read as those trains.
use Rattle.std.proofs.Common.{◌≡◌, ℕ, ◌+◌, ◌%◌, ◌^◌, ◌<◌, ◌≤◌, zero, suc, Bool, true, false, leb, eqb, cond, List, []}
use Rattle.std.proofs.Common.{◌∷◌, ◌++◌, length, Ok, refl, ap, ◌∙◌, arith, codes, decimal, bytes_eq, append_assoc}
use Rattle.std.specs.Prelude.{slice_index_or}
use Rattle.std.specs.List.{list_any, join_with_byte}
use Rattle.std.proofs.lemmas.Bool.Decides.{nat_tests}
use Rattle.rail_text.specs.Lines.{lines_of, printed_line, ended_line}
use Rattle.rail_text.specs.Texts.{line_onto, lines_onto}
use Rattle.rail_text.specs.Words.{is_name}
use Rattle.rail_text.proofs.PrintedLines.{lines_of-printed_line}
use Rattle.rail_text.proofs.PrintedWords.{form_of-words, words_of-words, joined_lacks_line_end}
use Rattle.line_plan.specs.Plans.{names_of_trains, opening_names}
use Rattle.plan_draft.specs.Drafts.{DraftFields}
use Rattle.plan_draft.specs.LineWords.{number_in_names}
use Rattle.plan_draft.specs.Reading.{words_onto, line_kind, may_follow, kind_onto, train_onto, train_in, brought_in}
use Rattle.plan_draft.specs.Reading.{with_train}
use Rattle.line_plan.specs.declared.plan.TrainPlan.{TrainPlan}
use Rattle.plan_text.proofs.LineReads.{IsLine}
use Rattle.plan_text.proofs.WordReads.{fits, fitting_line, name_fits, new_reads}
use Rattle.line_maker.specs.MadeTrains.{class_of, runs_down}
use Rattle.line_maker.specs.MadeTexts.{train_text, trains_text}
use Rattle.line_maker.proofs.MadeLine.{ash, beech, cedar, name_of, made_train, made_trains, draft_at}
use Rattle.line_maker.proofs.BaseRead.{read_from}
use Rattle.line_maker.proofs.TrainNames.{name_is, name_new, trains_count}

-- ---- the words of a train's line

-- the name of a class by its number
abbrev class_word : ℕ → List ℕ
class_word k = slice_index_or opening_names k []

-- the words of the line of a train that runs down, or up
abbrev line_words : Bool → List ℕ → ℕ → List (List ℕ)
line_words true name k = codes "train" ∷ name ∷ class_word k ∷ codes "Ash" ∷ codes "DP" ∷ []
line_words false name k = codes "train" ∷ name ∷ class_word k ∷ codes "Cedar" ∷ codes "UP" ∷ []

-- a train of this class that runs down, or up
abbrev train_of : Bool → List ℕ → ℕ → TrainPlan
train_of true name k = record { name = name; class_no = k; box_no = 0; place = 0 }
train_of false name k = record { name = name; class_no = k; box_no = 2; place = 2 }

-- a class that is found by its name
record IsClass (k : ℕ) : Type 0 where
  found : number_in_names opening_names (class_word k) ≡ Ok k
  fit : fits 16 (class_word k) ≡ true

class_known : (i : ℕ) → IsClass (class_of i)
unfolding number_in_names
class_known i = go (eqb (i % 4) 1) (eqb (i % 4) 2) (eqb (i % 4) 3) where
  go : (a b c : Bool) → IsClass (cond a 1 (cond b 0 (cond c 2 3)))
  go true b c = record { found = refl; fit = refl }
  go false true c = record { found = refl; fit = refl }
  go false false true = record { found = refl; fit = refl }
  go false false false = record { found = refl; fit = refl }

not_many : (n : ℕ) → n < 5000 → leb 5000 n ≡ false
not_many n h = grind (arith, nat_tests)

train_read : (down : Bool) (trains : List TrainPlan) (name : List ℕ) (k : ℕ) → IsClass k → is_name name ≡ true
    → list_any (bytes_eq name) (names_of_trains trains) ≡ false → length trains < 5000
    → words_onto (draft_at trains) (line_words down name k) ≡ Ok (draft_at (trains ++ train_of down name k ∷ []))
unfolding words_onto line_kind may_follow kind_onto train_onto train_in brought_in with_train number_in_names ash beech
    cedar
train_read true [] name k class good new few = rw (new_reads [] name good new, class.found) refl
train_read false [] name k class good new few = rw (new_reads [] name good new, class.found) refl
train_read true (t ∷ ts) name k class good new few = let fewer : leb 5000 (length (t ∷ ts)) ≡ false =
    not_many (length (t ∷ ts)) few in rw (new_reads (names_of_trains (t ∷ ts)) name good new, class.found, fewer) refl
train_read false (t ∷ ts) name k class good new few = let fewer : leb 5000 (length (t ∷ ts)) ≡ false =
    not_many (length (t ∷ ts)) few in rw (new_reads (names_of_trains (t ∷ ts)) name good new, class.found, fewer) refl

-- ---- lines

words_fit : (down : Bool) (name : List ℕ) (k : ℕ) → IsClass k → is_name name ≡ true → IsLine (line_words down name k)
words_fit true name k class good =
    fitting_line 16 (line_words true name k) (rw (name_fits name good, class.fit) refl) (omega arith) refl
words_fit false name k class good =
    fitting_line 16 (line_words false name k) (rw (name_fits name good, class.fit) refl) (omega arith) refl

-- a line of words at the front of a text
line_read : (n : ℕ) (draft next : DraftFields) (word : List ℕ) (words : List (List ℕ)) (rest : List ℕ)
    → IsLine (word ∷ words) → words_onto draft (word ∷ words) ≡ Ok next
    → read_from n draft (printed_line (join_with_byte 32 (word ∷ words)) ++ rest) ≡ read_from (n + 1) next rest
unfolding lines_onto line_onto
line_read n draft next word words rest is e =
    let text = join_with_byte 32 (word ∷ words) in
    let cut : lines_of (printed_line text ++ rest) ≡ ended_line text ∷ lines_of rest =
    lines_of-printed_line text rest (joined_lacks_line_end (word ∷ words) is.each) in
    rw (cut, form_of-words true word words is.each is.begins is.short, words_of-words word words is.each, e) refl

-- the text of the line by its words
line_text : (down : Bool) (digits : List ℕ) (k : ℕ) (rest : List ℕ)
    → (codes "train t" ++ digits ++ codes " " ++ class_word k ++ cond down (codes " Ash DP\n") (codes " Cedar UP\n"))
    ++ rest ≡ printed_line (join_with_byte 32 (line_words down (codes "t" ++ digits) k)) ++ rest
line_text true digits k rest = simp append_assoc
line_text false digits k rest = simp append_assoc

pub one_read : (i n : ℕ) (trains : List TrainPlan) (rest : List ℕ) → i < 10 ^ 10
    → list_any (bytes_eq (name_of i)) (names_of_trains trains) ≡ false → length trains < 5000
    → read_from n (draft_at trains) (train_text i ++ rest)
    ≡ read_from (n + 1) (draft_at (trains ++ made_train i ∷ [])) rest
unfolding train_text
one_read i n trains rest small new few =
    ap (read_from n (draft_at trains)) (line_text (runs_down i) (decimal i) (class_of i) rest) ∙ go (runs_down i) where
      go : (down : Bool)
          → read_from n (draft_at trains)
          (printed_line (join_with_byte 32 (line_words down (name_of i) (class_of i))) ++ rest)
          ≡ read_from (n + 1)
          (draft_at
          (trains ++ record {
            name = name_of i;
            class_no = class_of i;
            box_no = cond down 0 2;
            place =
                cond down 0 2;
          } ∷ [])) rest
      go true =
          line_read n (draft_at trains) (draft_at (trains ++ train_of true (name_of i) (class_of i) ∷ []))
          (codes "train") (name_of i ∷ class_word (class_of i) ∷ codes "Ash" ∷ codes "DP" ∷ []) rest
          (words_fit true (name_of i) (class_of i) (class_known i) (name_is i small))
          (train_read true trains (name_of i) (class_of i) (class_known i) (name_is i small) new few)
      go false =
          line_read n (draft_at trains) (draft_at (trains ++ train_of false (name_of i) (class_of i) ∷ []))
          (codes "train") (name_of i ∷ class_word (class_of i) ∷ codes "Cedar" ∷ codes "UP" ∷ []) rest
          (words_fit false (name_of i) (class_of i) (class_known i) (name_is i small))
          (train_read false trains (name_of i) (class_of i) (class_known i) (name_is i small) new few)

-- the lines of trains 1 to n
pub trains_read : (n : ℕ) (rest : List ℕ) → n ≤ 200
    → read_from 58 (draft_at []) (trains_text n ++ rest) ≡ read_from (58 + n) (draft_at (made_trains n)) rest
unfolding trains_text made_trains
trains_read zero rest h = refl
trains_read (suc n) rest h =
    ap (read_from 58 (draft_at [])) (append_assoc (trains_text n) (train_text (suc n)) rest)
    ∙ trains_read n (train_text (suc n) ++ rest) (omega arith)
    ∙ one_read (suc n) (58 + n) (made_trains n) rest (omega arith) (name_new (suc n) n (omega arith) (omega arith))
    (omega (arith, trains_count n))
    ∙ ap (λ (m : ℕ). read_from m (draft_at (made_trains n ++ made_train (suc n) ∷ [])) rest) (omega arith)

pub ruleset trains_rules = (trains_read)
