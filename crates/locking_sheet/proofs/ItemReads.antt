-- A row that is printed as an item is read as that row.
use Rattle.std.proofs.Common.{◌≡◌, ℕ, ◌<◌, ◌≤◌, ◌^◌, Bool, true, false, ◌&&◌, List, [], ◌∷◌, ◌++◌, length, refl, sym}
use Rattle.std.proofs.Common.{ap, ◌∙◌, subst, arith, codes, decimal, if◌then◌else◌, append_assoc, append-nil}
use Rattle.std.specs.Prelude.{All, Some, None, Ok, IsTrue, nat_le}
use Rattle.std.proofs.lemmas.Bool.Decides.{nat_tests}
use Rattle.std.proofs.lemmas.Fmt.{decimal_nonempty}
use Rattle.std.proofs.lemmas.List.Elements.{All-head, All-tail}
use Rattle.rail_text.proofs.NumberLemmas.{number_of-decimal}
use Rattle.locking_table.specs.declared.places.End.{End}
use Rattle.locking_table.specs.declared.places.End.TheVariants.{Normal, Reversed}
use Rattle.locking_table.specs.declared.row.Cond.{Cond}
use Rattle.locking_table.specs.declared.row.Row.{Row}
use Rattle.locking_table.specs.declared.row.RowKind.{RowKind}
use Rattle.locking_table.specs.declared.row.RowKind.TheVariants.{LocksNormal, ReleasedBy, LocksBoth}
use Rattle.locking_table.specs.Sound.{CondFits, IsRow, all_differ, levers_of}
use Rattle.row_texts.specs.declared.draft.Entry.{Entry}
use Rattle.row_texts.specs.declared.draft.Head.{Head}
use Rattle.row_texts.specs.declared.draft.Place.{Place}
use Rattle.row_texts.specs.declared.draft.Place.TheVariants as places
use Rattle.row_texts.specs.Drafts.{DraftFields, is_beside, most_number}
use Rattle.row_texts.specs.Items.{number_up_to, up_to, with_word}
use Rattle.row_texts.specs.Marks.{marked, rows_onto}
use Rattle.row_texts.specs.Texts.{ReaderFields}
use Rattle.locking_sheet.specs.Items.{cond_text, conds_text, end_text, item_text, verb_text}
use Rattle.locking_sheet.proofs.Onto.{decimal_plain, mark_on, onto, onto_then, holds, word_on}

-- ---- numbers

chosen : (n most : ℕ) (t : Bool) → t ≡ true → (if t then Some n else None) ≡ Some n
chosen n most true h = refl
chosen n most false h = cc

pub number_read : (most n : ℕ) → 1 ≤ n → n ≤ most → n < 2 ^ 16 → number_up_to most (decimal n) ≡ Some n
number_read most n low high small =
    let within : (nat_le 1 n && nat_le n most) ≡ true = grind (arith, nat_tests) in
    ap (up_to most) (number_of-decimal n (omega arith)) ∙ chosen n most (nat_le 1 n && nat_le n most) within

pub some_digits : (n : ℕ) → n < 2 ^ 16 → 0 < length (decimal n)
some_digits n small = decimal_nonempty n (omega arith)

-- a draft
abbrev pub at : Place → List ℕ → List Cond → List Entry → DraftFields
at place levers when entries = record { place = place; levers = levers; when = when; entries = entries }

-- a number behind nothing, or behind what begins its word
pub decimal_on : (n : ℕ) (v : List ℕ) (draft : DraftFields) → n < 2 ^ 16
    → is_beside draft.place ≡ false
    → onto (holds v draft) (decimal n) ≡ Ok (holds (v ++ decimal n) draft)
decimal_on n v draft small here = word_on (decimal n) v draft here (decimal_plain n (omega arith))

-- ---- the texts, by their parts

one_text : (c : Cond)
    → codes " when " ++ (decimal c.lever ++ end_text c.end) ++ codes ";" ≡ conds_text (c ∷ []) ++ codes ";"
unfolding cond_text
one_text c = simp (append_assoc, append-nil)

regroup : (w a b x c d z : List ℕ)
    → w ++ ((a ++ b) ++ (x ++ ((c ++ d) ++ z))) ≡ (((w ++ a) ++ b) ++ (((x ++ c) ++ d) ++ [])) ++ z
regroup w a b x c d z = simp (append_assoc, append-nil)

two_text : (c d : Cond)
    → codes " when "
    ++ ((decimal c.lever ++ end_text c.end) ++ (codes " and " ++ ((decimal d.lever ++ end_text d.end) ++ codes ";")))
    ≡ conds_text (c ∷ d ∷ []) ++ codes ";"
unfolding cond_text
two_text c d =
    regroup (codes " when ") (decimal c.lever) (end_text c.end) (codes " and ") (decimal d.lever) (end_text d.end)
    (codes ";")

regroup_all : (a n v x c z : List ℕ) → ((a ++ n) ++ (v ++ x)) ++ (c ++ z) ≡ ((((a ++ n) ++ v) ++ x) ++ c) ++ z
regroup_all a n v x c z = simp append_assoc

whole_text : (row : Row) (number : ℕ)
    → ((codes " #" ++ decimal number) ++ (verb_text row.kind ++ decimal row.object)) ++ (conds_text row.when ++ codes ";")
    ≡ item_text number row
unfolding item_text
whole_text row number =
    regroup_all (codes " #") (decimal number) (verb_text row.kind) (decimal row.object) (conds_text row.when) (codes ";")

-- ---- up to the object

-- what the row's item says before its object
abbrev pub head : Row → ℕ → Head
head row number = record { lever = row.subject; number = number; kind = row.kind }

-- the draft behind the object, whose word hasn't ended
abbrev pub behind_object : Row → ℕ → List Entry → ReaderFields
behind_object row number es = holds (decimal row.object) (at (places.Levers (head row number)) [] [] es)

abbrev pub entry : Row → ℕ → Entry
entry row number = record { row = row; number = number }

-- the row is put behind the others
abbrev pub read : Row → ℕ → List Entry → ReaderFields
read row number es = holds [] (at (places.Line row.subject) [] [] (es ++ entry row number ∷ []))

-- the draft in which a condition is wanted
abbrev pub wanted : Row → ℕ → List Entry → List Cond → ReaderFields
wanted row number es when = holds [] (at (places.When (head row number)) (row.object ∷ []) when es)

abbrev pub letter : End → List ℕ
letter Normal = codes "n"
letter Reversed = codes "r"

-- the draft in which the letter of a condition has begun
abbrev pub lettered : Row → ℕ → List Entry → List Cond → ℕ → End → ReaderFields
lettered row number es when lever e =
    holds (letter e) (at (places.Cond (head row number) lever) (row.object ∷ []) when es)

module _ (row : Row) (number : ℕ) (es : List Entry) where
  number_on : 1 ≤ number → number ≤ most_number
      → onto (holds [] (at (places.Line row.subject) [] [] es)) (codes " #" ++ decimal number)
      ≡ Ok (holds (35 ∷ decimal number) (at (places.Line row.subject) [] [] es))
  number_on low high =
      onto_then (holds [] (at (places.Line row.subject) [] [] es)) (holds (35 ∷ []) (at (places.Line row.subject) [] [] es))
      (holds (35 ∷ decimal number) (at (places.Line row.subject) [] [] es)) (codes " #") (decimal number) refl
      (decimal_on number (35 ∷ []) (at (places.Line row.subject) [] [] es) (omega arith) refl)

  verb_on : (kind : RowKind) → 1 ≤ number → number ≤ most_number
      → onto (holds (35 ∷ decimal number) (at (places.Line row.subject) [] [] es)) (verb_text kind)
      ≡ Ok
      (holds [] (at (places.Levers (record { lever = row.subject; number = number; kind = kind })) [] [] es))
  verb_on LocksNormal low high = let n = number_read most_number number low high (omega arith) in rw n refl
  verb_on ReleasedBy low high = let n = number_read most_number number low high (omega arith) in rw n refl
  verb_on LocksBoth low high = let n = number_read most_number number low high (omega arith) in rw n refl

  object_on : 1 ≤ number → number ≤ most_number → row.object ≤ 120
      → onto (holds [] (at (places.Line row.subject) [] [] es))
      ((codes " #" ++ decimal number) ++ (verb_text row.kind ++ decimal row.object))
      ≡ Ok (behind_object row number es)
  object_on low high few =
      onto_then (holds [] (at (places.Line row.subject) [] [] es))
      (holds (35 ∷ decimal number) (at (places.Line row.subject) [] [] es)) (behind_object row number es) (codes " #" ++ decimal number)
      (verb_text row.kind ++ decimal row.object) (number_on low high)
      (onto_then (holds (35 ∷ decimal number) (at (places.Line row.subject) [] [] es))
      (holds [] (at (places.Levers (head row number)) [] [] es)) (behind_object row number es) (verb_text row.kind) (decimal row.object)
      (verb_on row.kind low high) (decimal_on row.object [] (at (places.Levers (head row number)) [] [] es) (omega arith) refl))

  -- ---- what stands behind the object

  row_put : (when : List Cond) → when ≡ row.when → IsTrue (all_differ (levers_of row))
      → rows_onto (head row number) when es (row.object ∷ []) ≡ Ok (es ++ (entry row number) ∷ [])
  row_put when same differ =
      let test : all_differ (levers_of row) ≡ true = differ in
      subst (λ (w : List Cond). rows_onto (head row number) w es (row.object ∷ []) ≡ Ok (es ++ (entry row number) ∷ [])) (sym same)
      (rw test refl)

  object_word : row.object ≤ 120 → 1 ≤ row.object
      → with_word (decimal row.object) (at (places.Levers (head row number)) [] [] es)
      ≡ Ok (at (places.Levers (head row number)) (row.object ∷ []) [] es)
  object_word few low = let n = number_read 120 row.object low few (omega arith) in rw n refl

  -- no condition
  end_on : row.object ≤ 120 → 1 ≤ row.object → [] ≡ row.when → IsTrue (all_differ (levers_of row))
      → onto (behind_object row number es) (codes ";") ≡ Ok (read row number es)
  end_on few low none differ =
      let put = row_put [] none differ in
      let mark : marked 59 (at (places.Levers (head row number)) (row.object ∷ []) [] es)
      ≡ Ok (at (places.Line row.subject) [] [] (es ++ (entry row number) ∷ [])) = rw put refl in
      let byte = mark_on 59 (decimal row.object) (at (places.Levers (head row number)) [] [] es)
      (at (places.Levers (head row number)) (row.object ∷ []) [] es) (at (places.Line row.subject) [] [] (es ++ (entry row number) ∷ [])) refl refl
      (some_digits row.object (omega arith)) (object_word few low) mark in
      rw byte refl

  -- ---- conditions

  when_on : row.object ≤ 120 → 1 ≤ row.object → onto (behind_object row number es) (codes " when ") ≡ Ok (wanted row number es [])
  when_on few low =
      let byte = mark_on 32 (decimal row.object) (at (places.Levers (head row number)) [] [] es)
      (at (places.Levers (head row number)) (row.object ∷ []) [] es) (at (places.Levers (head row number)) (row.object ∷ []) [] es) refl refl
      (some_digits row.object (omega arith)) (object_word few low) refl in
      rw byte refl

  letter_on : (when : List Cond) (lever : ℕ) (e : End) → 1 ≤ lever → lever ≤ 120
      → onto (holds (decimal lever) (at (places.When (head row number)) (row.object ∷ []) when es)) (end_text e)
      ≡ Ok (lettered row number es when lever e)
  letter_on when lever Normal low few =
      let n = number_read 120 lever low few (omega arith) in
      let byte = mark_on 32 (decimal lever) (at (places.When (head row number)) (row.object ∷ []) when es)
      (at (places.Cond (head row number) lever) (row.object ∷ []) when es) (at (places.Cond (head row number) lever) (row.object ∷ []) when es) refl
      refl (some_digits lever (omega arith)) (rw n refl) refl in
      rw byte refl
  letter_on when lever Reversed low few =
      let n = number_read 120 lever low few (omega arith) in
      let byte = mark_on 32 (decimal lever) (at (places.When (head row number)) (row.object ∷ []) when es)
      (at (places.Cond (head row number) lever) (row.object ∷ []) when es) (at (places.Cond (head row number) lever) (row.object ∷ []) when es) refl
      refl (some_digits lever (omega arith)) (rw n refl) refl in
      rw byte refl

  cond_on : (when : List Cond) (cond : Cond) → CondFits 120 cond
      → onto (wanted row number es when) (decimal cond.lever ++ end_text cond.end) ≡ Ok (lettered row number es when cond.lever cond.end)
  cond_on when cond fits =
      onto_then (wanted row number es when) (holds (decimal cond.lever) (at (places.When (head row number)) (row.object ∷ []) when es))
      (lettered row number es when cond.lever cond.end) (decimal cond.lever) (end_text cond.end)
      (decimal_on cond.lever [] (at (places.When (head row number)) (row.object ∷ []) when es) (omega arith) refl)
      (letter_on when cond.lever cond.end (omega arith) (omega arith))

  one_more : (lever : ℕ) (e : End)
      → onto (lettered row number es [] lever e) (codes " and ") ≡ Ok (wanted row number es (record { lever = lever; end = e } ∷ []))
  one_more lever Normal = refl
  one_more lever Reversed = refl

  last_one : (lever : ℕ) (e : End) → record { lever = lever; end = e } ∷ [] ≡ row.when
      → IsTrue (all_differ (levers_of row)) → onto (lettered row number es [] lever e) (codes ";") ≡ Ok (read row number es)
  last_one lever Normal same differ = let put = row_put (record { lever = lever; end = Normal } ∷ []) same differ in rw put refl
  last_one lever Reversed same differ =
      let put = row_put (record { lever = lever; end = Reversed } ∷ []) same differ in rw put refl

  last_two : (c : Cond) (lever : ℕ) (e : End) → c ∷ record { lever = lever; end = e } ∷ [] ≡ row.when
      → IsTrue (all_differ (levers_of row)) → onto (lettered row number es (c ∷ []) lever e) (codes ";") ≡ Ok (read row number es)
  last_two c lever Normal same differ =
      let put = row_put (c ∷ record { lever = lever; end = Normal } ∷ []) same differ in rw put refl
  last_two c lever Reversed same differ =
      let put = row_put (c ∷ record { lever = lever; end = Reversed } ∷ []) same differ in rw put refl

  conds_on : (when : List Cond) → when ≡ row.when → IsRow row
      → onto (behind_object row number es) (conds_text when ++ codes ";") ≡ Ok (read row number es)
  unfolding cond_text
  conds_on [] same is = let object = is.levers.object in end_on (omega arith) (omega arith) same is.differ
  conds_on (c ∷ []) same is =
      let object = is.levers.object in
      let all = subst (λ (w : List Cond). All (CondFits 120) w) (sym same) is.levers.when in
      let fits = All-head (CondFits 120) c [] all in
      subst (λ (t : List ℕ). onto (behind_object row number es) t ≡ Ok (read row number es)) (one_text c)
      (onto_then (behind_object row number es) (wanted row number es []) (read row number es) (codes " when ") ((decimal c.lever ++ end_text c.end) ++ codes ";")
      (when_on (omega arith) (omega arith))
      (onto_then (wanted row number es []) (lettered row number es [] c.lever c.end) (read row number es) (decimal c.lever ++ end_text c.end) (codes ";")
      (cond_on [] c fits) (last_one c.lever c.end same is.differ)))
  conds_on (c ∷ d ∷ []) same is =
      let object = is.levers.object in
      let all = subst (λ (w : List Cond). All (CondFits 120) w) (sym same) is.levers.when in
      let fits = All-head (CondFits 120) c (d ∷ []) all in
      let next = All-head (CondFits 120) d [] (All-tail (CondFits 120) c (d ∷ []) all) in
      subst (λ (t : List ℕ). onto (behind_object row number es) t ≡ Ok (read row number es)) (two_text c d)
      (onto_then (behind_object row number es) (wanted row number es []) (read row number es) (codes " when ")
      ((decimal c.lever ++ end_text c.end) ++ (codes " and " ++ ((decimal d.lever ++ end_text d.end) ++ codes ";")))
      (when_on (omega arith) (omega arith))
      (onto_then (wanted row number es []) (lettered row number es [] c.lever c.end) (read row number es) (decimal c.lever ++ end_text c.end)
      (codes " and " ++ ((decimal d.lever ++ end_text d.end) ++ codes ";")) (cond_on [] c fits)
      (onto_then (lettered row number es [] c.lever c.end) (wanted row number es (c ∷ [])) (read row number es) (codes " and ")
      ((decimal d.lever ++ end_text d.end) ++ codes ";") (one_more c.lever c.end)
      (onto_then (wanted row number es (c ∷ [])) (lettered row number es (c ∷ []) d.lever d.end) (read row number es) (decimal d.lever ++ end_text d.end) (codes ";")
      (cond_on (c ∷ []) d next) (last_two c d.lever d.end same is.differ)))))
  conds_on (c ∷ d ∷ e ∷ when) same is = let few = is.few in let long = ap length same in absurd (omega (arith, few, long))

  -- an item is read as its row
  pub item_reads : IsRow row → 1 ≤ number → number ≤ most_number
      → onto (holds [] (at (places.Line row.subject) [] [] es)) (item_text number row) ≡ Ok (read row number es)
  unfolding item_text
  item_reads is low high =
      let object = is.levers.object in
      subst (λ (t : List ℕ). onto (holds [] (at (places.Line row.subject) [] [] es)) t ≡ Ok (read row number es)) (whole_text row number)
      (onto_then (holds [] (at (places.Line row.subject) [] [] es)) (behind_object row number es) (read row number es)
      ((codes " #" ++ decimal number) ++ (verb_text row.kind ++ decimal row.object)) (conds_text row.when ++ codes ";")
      (object_on low high (omega arith)) (conds_on row.when refl is))
