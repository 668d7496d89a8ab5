-- How a row is read of its text, from left to right, and the first word at which no row's text goes on.
use Rattle.std.specs.Prelude.{◌≡◌, ℕ, ◌+◌, ◌-◌, ◌*◌, List, [], ◌∷◌, Option, Some, None, Result, Ok, Err, Bool, true}
use Rattle.std.specs.Prelude.{false, ◌&&◌, ◌==◌, nat_le, if◌then◌else◌, codes, bytes_eq}
use Rattle.std.specs.Char.{is_ascii_digit}
use Rattle.locking_table.specs.declared.places.End.{End}
use Rattle.locking_table.specs.declared.places.End.TheVariants.{Normal, Reversed}
use Rattle.locking_table.specs.declared.row.RowKind.{RowKind}
use Rattle.locking_table.specs.declared.row.RowKind.TheVariants.{LocksNormal, ReleasedBy, LocksBoth}
use Rattle.locking_table.specs.declared.row.Cond.{Cond}
use Rattle.locking_table.specs.declared.row.Row.{Row}
use Rattle.locking_table.specs.declared.fault.RowError.{RowError}
use Rattle.locking_table.specs.declared.fault.RowError.TheVariants as errors
use Rattle.locking_table.specs.declared.fault.RowFault.{RowFault}
use Rattle.locking_table.specs.declared.fault.RowFault.TheVariants as faults
use Rattle.locking_table.specs.declared.words.Verb.{Verb}
use Rattle.locking_table.specs.declared.words.Verb.TheVariants.{Locks, Released}
use Rattle.locking_table.specs.declared.words.Bound.{Bound}
use Rattle.locking_table.specs.declared.words.Bound.TheVariants as bounds
use Rattle.locking_table.specs.Places.{most_levers}
use Rattle.locking_table.specs.Words.{Left, words_of}
use Rattle.locking_table.specs.Sound.{all_differ, levers_of}

infixl 10 ◌>>=◌
abbrev pub ◌>>=◌ : {A B E : Type 0} → Result A E → (A → Result B E) → Result B E
(Ok x) >>= f = f x
(Err e) >>= f = Err e

-- a number up to that of the last lever, with one digit more
abbrev pub with_digit : ℕ → ℕ → Option ℕ
with_digit number byte =
    if is_ascii_digit byte && nat_le 1 (10 * number + (byte - 48)) && nat_le (10 * number + (byte - 48)) most_levers
    then Some (10 * number + (byte - 48)) else None

-- a number with these digits behind it, none of which leads out of the numbers of levers
abbrev pub lever_on : Option ℕ → List ℕ → Option ℕ
lever_on None bytes = None
lever_on (Some number) [] = if number == 0 then None else Some number
lever_on (Some number) (byte ∷ bytes) = lever_on (with_digit number byte) bytes

-- the lever that a word names: its number without leading zeros
abbrev pub lever_of : List ℕ → Option ℕ
lever_of word = lever_on (Some 0) word

abbrev pub end_of_word : List ℕ → Option End
end_of_word word = if bytes_eq word (codes "normal") then Some Normal else if bytes_eq word (codes "reversed")
    then Some Reversed else None

abbrev pub verb_of : List ℕ → Option Verb
verb_of word = if bytes_eq word (codes "locks") then Some Locks else if bytes_eq word (codes "released")
    then Some Released else None

abbrev pub bound_of : List ℕ → Option Bound
bound_of word = if bytes_eq word (codes "normal") then Some bounds.Normal else if bytes_eq word (codes "both")
    then Some bounds.Both else None

abbrev pub only : List ℕ → List ℕ → Option (Unit {0})
only wanted word = if bytes_eq word wanted then Some tt else None

-- what the word with this number says, and what is left behind it
abbrev pub said : {A : Type 0} → Option A → ℕ → List (List ℕ) → Result (A × Left) RowFault
said None number words = Err (faults.BadRow number)
said (Some value) number words = Ok (value, record { number = number + 1; words = words })

abbrev pub first_by : {A : Type 0} → (List ℕ → Option A) → ℕ → List (List ℕ) → Result (A × Left) RowFault
first_by meaning number [] = Err (faults.BadRow number)
first_by meaning number (word ∷ words) = said (meaning word) number words

-- the next word, by its meaning
abbrev pub word_by : {A : Type 0} → (List ℕ → Option A) → Left → Result (A × Left) RowFault
word_by meaning left = first_by meaning left.number left.words

abbrev pub has_no_word : List (List ℕ) → Bool
has_no_word [] = true
has_no_word (word ∷ words) = false

unfoldable pub lever_from : Left → Result (ℕ × Left) RowFault
lever_from left = word_by lever_of left

unfoldable pub end_from : Left → Result (End × Left) RowFault
end_from left = word_by end_of_word left

unfoldable pub verb_from : Left → Result (Verb × Left) RowFault
verb_from left = word_by verb_of left

unfoldable pub bound_from : Left → Result (Bound × Left) RowFault
bound_from left = word_by bound_of left

-- exactly this word
unfoldable pub only_from : List ℕ → Left → Result (Unit {0} × Left) RowFault
only_from wanted left = word_by (only wanted) left

-- no word more
unfoldable pub end_of_text : Left → Result (Unit {0} × Left) RowFault
end_of_text left = if has_no_word left.words then Ok (tt, left) else Err (faults.BadRow left.number)

unfoldable pub locked_by : Bound → Left → Result (RowKind × Left) RowFault
locked_by bounds.Normal left = Ok (LocksNormal, left)
locked_by bounds.Both left = only_from (codes "ways") left >>= λ p. Ok (LocksBoth, p.1)

-- behind `locks B`: `normal` or `both ways`
unfoldable pub locked_from : Left → Result (RowKind × Left) RowFault
locked_from left = bound_from left >>= λ p. locked_by p.0 p.1

-- what the row says of its object: the kind, and the object
unfoldable pub asked_by : Verb → Left → Result ((RowKind × ℕ) × Left) RowFault
asked_by Locks left = lever_from left >>= λ object. locked_from object.1 >>= λ kind. Ok ((kind.0, object.0), kind.1)
asked_by Released left =
    only_from (codes "by") left >>= λ p. lever_from p.1 >>= λ object. Ok ((ReleasedBy, object.0), object.1)

unfoldable pub asked_from : Left → Result ((RowKind × ℕ) × Left) RowFault
asked_from left = verb_from left >>= λ p. asked_by p.0 p.1

-- a condition behind the word that joins it on
unfoldable pub cond_from : List ℕ → Left → Result (Cond × Left) RowFault
cond_from joint left = only_from joint left >>= λ p. lever_from p.1 >>= λ lever. end_from lever.1 >>= λ e. Ok
    (record { lever = lever.0; end = e.0 }, e.1)

-- what stands behind one condition: nothing, or one more
unfoldable pub second_from : Cond → Left → Result (List Cond) RowFault
second_from first left =
    if has_no_word left.words then Ok (first ∷ [])
    else (cond_from (codes "and") left >>= λ second. end_of_text second.1 >>= λ _. Ok (first ∷ second.0 ∷ []))

-- up to two conditions, and no word more
unfoldable pub conds_from : Left → Result (List Cond) RowFault
conds_from left = if has_no_word left.words then Ok []
    else (cond_from (codes "when") left >>= λ first. second_from first.0 first.1)

-- a row by the grammar of rows
unfoldable pub row_from : Left → Result Row RowFault
row_from left = lever_from left >>= λ subject. asked_from subject.1 >>= λ asked. conds_from asked.1 >>= λ conds.
    Ok (record { subject = subject.0; kind = asked.0.0; object = asked.0.1; when = conds })

unfoldable pub grammar_of : List ℕ → Result Row RowFault
grammar_of text = row_from (record { number = 1; words = words_of text })

-- all levers that a row names differ
abbrev pub checked : Row → Result Row RowFault
checked row = if all_differ (levers_of row) then Ok row else Err faults.SameLever

-- the row that a text spells, or why it spells none
unfoldable pub row_of : List ℕ → Result Row RowFault
row_of text = grammar_of text >>= checked

-- The reader's answer where reading fails: the same fault. It takes no memory.
abbrev pub FailsRow : {A : Type 0} → RowError → Result A RowFault → Type 0
FailsRow (errors.BadRow word) read = read ≡ Err (faults.BadRow word)
FailsRow errors.SameLever read = read ≡ Err faults.SameLever
FailsRow errors.NoMemory read = ⊥

-- A reader answers what reading gives.
abbrev pub GivesRow : {A : Type 0} → Result A RowError → Result A RowFault → Type 0
GivesRow (Ok value) read = read ≡ Ok value
GivesRow (Err error) read = FailsRow error read

-- A reader that takes no memory answers what reading gives.
abbrev pub GivesFault : {A : Type 0} → Result A RowFault → Result A RowFault → Type 0
GivesFault (Ok value) read = read ≡ Ok value
GivesFault (Err fault) read = read ≡ Err fault

-- The same of a part of a row, behind which these words are left.
abbrev pub GivesPart : {A : Type 0} → Result A RowFault → Left → Result (A × Left) RowFault → Type 0
GivesPart (Ok value) left read = read ≡ Ok (value, left)
GivesPart (Err fault) left read = read ≡ Err fault
