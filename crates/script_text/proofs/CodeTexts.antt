-- Codes of the code table are read as they are printed, and each has one spelling.
use Rattle.std.proofs.Common.{◌≡◌, ℕ, ◌-◌, ◌≤◌, Bool, true, false, leb, List, [], ◌∷◌, length, Option, Some, None, Ok}
use Rattle.std.proofs.Common.{IsTrue, refl, sym, ap, ◌∙◌, arith, codes, bytes_eq}
use Rattle.std.specs.List.{list_all}
use Rattle.std.proofs.lemmas.Bool.Decides.{nat_tests}
use Rattle.std.proofs.lemmas.Slice.Eq.{bytes_eq-Decides}
use Rattle.bell_codes.specs.Codes.{is_code, is_code_byte, code_text}
use Rattle.bell_codes.specs.Reading.{code_of}
use Rattle.bell_codes.specs.Table.{code_at, code_number}
use Rattle.bell_codes.proofs.Texts.{read_text, read_spelled, text_bytes, text_some, text_few}
use Rattle.bell_codes.proofs.Numbers.{code_number-is, code_at-number, code_number-code_at}
use Rattle.rail_text.specs.Forms.{is_empty_word, is_word_byte, is_word}
use Rattle.rail_text.proofs.Binds.{OfOk}
use Rattle.rail_text.proofs.PrintedLines.{both}
use Rattle.rail_text.proofs.PrintedWords.{list_all-weaker}
use Rattle.line_plan.specs.Plans.{PlanFields, IsPlan}
use Rattle.line_law.specs.Known.{is_code_no}
use Rattle.script_text.specs.Acts.{numbered, coded, code_in}
use Rattle.script_text.specs.Names.{code_no_text, code_found, code_named, position_named}
use Rattle.script_text.proofs.Named.{valid_at}

record IsInTable (table : List (List ℕ)) (number : ℕ) : Type 0 where
  low : 1 ≤ number
  high : number ≤ length table

in_table : (plan : PlanFields) (number : ℕ) → is_code_no plan number ≡ true → IsInTable plan.codes number
in_table plan number h =
    let e = both (leb 1 number) (leb number (length plan.codes)) h in
    record { low = grind (arith, nat_tests, e.0); high = grind (arith, nat_tests, e.1) }

code_is : (plan : PlanFields) (number : ℕ) → IsPlan plan → is_code_no plan number ≡ true
    → is_code (code_at plan.codes number) ≡ true
unfolding code_at
code_is plan number p h =
    let i = in_table plan number h in
    valid_at is_code plan.codes (number - 1) p.classes.table.valid (omega (arith, i.low, i.high))

-- ---- as they are printed

abbrev Reads : PlanFields → ℕ → Type 0
Reads plan number = code_of (code_no_text plan.codes number) ≡ Some (code_at plan.codes number)

spelled_code : (plan : PlanFields) (number : ℕ) → IsPlan plan → is_code_no plan number ≡ true → Reads plan number
spelled_code plan number p h = read_text (code_at plan.codes number) (code_is plan number p h)

own_number : (plan : PlanFields) (number : ℕ) → IsPlan plan → is_code_no plan number ≡ true
    → code_number plan.codes (code_at plan.codes number) ≡ Some number
own_number plan number p h = let i =
    in_table plan number h in code_number-code_at plan.codes number p.classes.table i.low i.high

-- a printed code is read as its number in a call
pub code_read : (plan : PlanFields) (number : ℕ) → IsPlan plan → is_code_no plan number ≡ true
    → code_in plan (code_no_text plan.codes number) ≡ Ok number
unfolding code_in
code_read plan number p h = rw (spelled_code plan number p h, own_number plan number p h) refl

-- and in a reply
pub code_named-read : (plan : PlanFields) (number : ℕ) → IsPlan plan → is_code_no plan number ≡ true
    → code_named plan (code_no_text plan.codes number) ≡ Some number
code_named-read plan number p h = rw (spelled_code plan number p h, own_number plan number p h) refl

-- ---- as they are spelled

-- a number of the code table whose text the word is
abbrev pub IsCodeText : PlanFields → List ℕ → ℕ → Type 0
IsCodeText plan word number = IsTrue (is_code_no plan number) × (word ≡ code_no_text plan.codes number)

number_is : (plan : PlanFields) (word code : List ℕ) (number : ℕ) → word ≡ code_text code
    → code_number plan.codes code ≡ Some number → IsCodeText plan word number
number_is plan word code number s e =
    let n = code_number-is plan.codes code number e in
    let known : is_code_no plan number ≡ true = grind (arith, nat_tests, n.low, n.high) in
    (known, s ∙ ap code_text (sym (code_at-number plan.codes code number e)))

numbered_is : (plan : PlanFields) (word code : List ℕ) (o : Option ℕ) → word ≡ code_text code
    → code_number plan.codes code ≡ o → OfOk (IsCodeText plan word) (numbered o)
numbered_is plan word code None s e = tt
numbered_is plan word code (Some number) s e = number_is plan word code number s e

coded_is : (plan : PlanFields) (word : List ℕ) (o : Option (List ℕ)) → code_of word ≡ o
    → OfOk (IsCodeText plan word) (coded plan.codes o)
coded_is plan word None e = tt
coded_is plan word (Some code) e =
    numbered_is plan word code (code_number plan.codes code) (read_spelled word code e).1 refl

-- a word that is read as a code of the table is its text
pub code_in_is : (plan : PlanFields) (word : List ℕ) → OfOk (IsCodeText plan word) (code_in plan word)
unfolding code_in
code_in_is plan word = coded_is plan word (code_of word) refl

-- a word that names a code of the table is its text
pub code_spelled : (plan : PlanFields) (word : List ℕ) (number : ℕ) → code_named plan word ≡ Some number
    → IsCodeText plan word number
code_spelled plan word number e = go (code_of word) refl e where
  go : (o : Option (List ℕ)) → code_of word ≡ o → code_found plan.codes o ≡ Some number → IsCodeText plan word number
  go None is e = absurd cc
  go (Some code) is e = number_is plan word code number (read_spelled word code is).1 e

-- ---- a code's text as a word

code_byte : (b : ℕ) → is_code_byte b ≡ true → is_word_byte b ≡ true
code_byte b h = grind (arith, nat_tests)

not_empty : (word : List ℕ) → 1 ≤ length word → is_empty_word word ≡ false
not_empty [] h = absurd (omega arith)
not_empty (b ∷ bs) h = refl

-- a code's text is a word
pub code_is_word : (plan : PlanFields) (number : ℕ) → IsPlan plan → is_code_no plan number ≡ true
    → is_word (code_no_text plan.codes number) ≡ true
code_is_word plan number p h =
    let code = code_at plan.codes number in
    let is : is_code (code_at plan.codes number) ≡ true = code_is plan number p h in
    rw (
      not_empty (code_text code) (text_some code is),
      list_all-weaker is_code_byte is_word_byte code_byte (code_text code) (text_bytes code is),
    ) refl

-- a code's text is short
pub code_short : (plan : PlanFields) (number : ℕ) → IsPlan plan → is_code_no plan number ≡ true
    → length (code_no_text plan.codes number) ≤ 14
code_short plan number p h = text_few (code_at plan.codes number) (code_is plan number p h)

-- a word with a byte that no code has is no code
pub no_code : (plan : PlanFields) (number : ℕ) (word : List ℕ) → IsPlan plan → is_code_no plan number ≡ true
    → list_all is_code_byte word ≡ false → bytes_eq (code_no_text plan.codes number) word ≡ false
no_code plan number word p h other = go (bytes_eq (code_no_text plan.codes number) word) refl where
  go : (same : Bool) → bytes_eq (code_no_text plan.codes number) word ≡ same → same ≡ false
  go false e = refl
  go true e =
      let is : code_no_text plan.codes number ≡ word = (bytes_eq-Decides (code_no_text plan.codes number) word).0 e in
      let bytes : list_all is_code_byte word ≡ true =
      ap (list_all is_code_byte) (sym is) ∙ text_bytes (code_at plan.codes number) (code_is plan number p h) in
      absurd cc

-- a code's text names no position
pub code_is_no_position : (plan : PlanFields) (number : ℕ) → IsPlan plan → is_code_no plan number ≡ true
    → position_named (code_no_text plan.codes number) ≡ None
code_is_no_position plan number p h =
    rw (
      no_code plan number (codes "normal") p h refl,
      no_code plan number (codes "line_clear") p h refl,
      no_code plan number (codes "train_on_line") p h refl,
    ) refl
