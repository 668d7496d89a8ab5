-- The words of an item, one after another.
use Rattle.std.specs.Prelude.{ℕ, ◌&&◌, ◌==◌, nat_le, List, [], ◌∷◌, ◌++◌, Bool, true, false, Option, Some, None}
use Rattle.std.specs.Prelude.{Result, Ok, Err, bytes_eq, codes, if◌then◌else◌}
use Rattle.rail_text.specs.Number.{number_of}
use Rattle.locking_table.specs.declared.places.End.{End}
use Rattle.locking_table.specs.declared.places.End.TheVariants.{Normal, Reversed}
use Rattle.locking_table.specs.declared.row.Cond.{Cond}
use Rattle.locking_table.specs.declared.row.RowKind.{RowKind}
use Rattle.locking_table.specs.declared.row.RowKind.TheVariants.{LocksNormal, ReleasedBy, LocksBoth}
use Rattle.row_texts.specs.declared.cause.RowsCause.{RowsCause}
use Rattle.row_texts.specs.declared.cause.RowsCause.TheVariants as causes
use Rattle.row_texts.specs.declared.draft.Head.{Head}
use Rattle.row_texts.specs.declared.draft.Place.{Place}
use Rattle.row_texts.specs.declared.draft.Place.TheVariants as places
use Rattle.row_texts.specs.Drafts.{DraftFields, most_number, no_number}

-- a number from 1 to the most
abbrev pub up_to : ℕ → Option ℕ → Option ℕ
up_to most None = None
up_to most (Some n) = if nat_le 1 n && nat_le n most then Some n else None

abbrev pub number_up_to : ℕ → List ℕ → Option ℕ
number_up_to most word = up_to most (number_of word)

-- `rel`, `locks` or `both`
abbrev pub kind_of : List ℕ → Option RowKind
kind_of word =
    if bytes_eq word (codes "rel") then Some ReleasedBy
    else if bytes_eq word (codes "locks") then Some LocksNormal
    else if bytes_eq word (codes "both") then Some LocksBoth else None

-- `n` or `r`, or in full
abbrev pub end_of : List ℕ → Option End
end_of word =
    if bytes_eq word (codes "n") then Some Normal
    else if bytes_eq word (codes "r") then Some Reversed
    else if bytes_eq word (codes "normal") then Some Normal
    else if bytes_eq word (codes "reversed") then Some Reversed else None

-- the number of a row, as `#12`
abbrev pub row_number_of : List ℕ → Option ℕ
row_number_of [] = None
row_number_of (b ∷ bs) = if b == 35 then number_up_to most_number bs else None

-- one condition behind those that stand
abbrev pub with_cond : List Cond → Cond → List Cond
with_cond [] cond = cond ∷ []
with_cond (first ∷ more) cond = first ∷ cond ∷ []

abbrev pub is_one : List Cond → Bool
is_one [] = false
is_one (cond ∷ []) = true
is_one (cond ∷ next ∷ more) = false

abbrev pub has_lever : List ℕ → Bool
has_lever [] = false
has_lever (lever ∷ levers) = true

-- the place behind a word, or why the word may not stand there
abbrev pub or_cause : Option Place → RowsCause → Result Place RowsCause
or_cause None cause = Err cause
or_cause (Some place) cause = Ok place

abbrev pub moved : DraftFields → Result Place RowsCause → Result DraftFields RowsCause
moved draft (Ok place) = Ok (record draft { place = place })
moved draft (Err cause) = Err cause

-- the line's lever
abbrev pub named : DraftFields → Option ℕ → Result DraftFields RowsCause
named draft None = Err causes.NoLever
named draft (Some lever) = Ok (record draft { place = places.Named lever })

-- what the item says of its levers
abbrev pub begun : DraftFields → ℕ → ℕ → Option RowKind → Result DraftFields RowsCause
begun draft lever number None = Err causes.NoVerb
begun draft lever number (Some kind) =
    Ok (record draft { place = places.Levers (record { lever = lever; number = number; kind = kind }) })

-- the number of its rows, or what it says at once
abbrev pub labelled : DraftFields → ℕ → List ℕ → Option ℕ → Result DraftFields RowsCause
labelled draft lever word None = begun draft lever no_number (kind_of word)
labelled draft lever word (Some number) = Ok (record draft { place = places.Numbered lever number })

-- one of its levers
abbrev pub object : DraftFields → Option ℕ → Result DraftFields RowsCause
object draft None = Err causes.NoObject
object draft (Some lever) = Ok (record draft { levers = draft.levers ++ lever ∷ [] })

-- one of its levers, or `when` behind one at least
abbrev pub lever_or_when : DraftFields → Head → List ℕ → Result DraftFields RowsCause
lever_or_when draft head word =
    if has_lever draft.levers && bytes_eq word (codes "when") then Ok (record draft { place = places.When head })
    else object draft (number_up_to 120 word)

-- the lever of a condition
abbrev pub conditioned : DraftFields → Head → Option ℕ → Result DraftFields RowsCause
conditioned draft head None = Err causes.NoCondition
conditioned draft head (Some lever) = Ok (record draft { place = places.Cond head lever })

-- the end of a condition
abbrev pub ended_by : DraftFields → Head → ℕ → Option End → Result DraftFields RowsCause
ended_by draft head lever None = Err causes.NoEnd
ended_by draft head lever (Some e) =
    Ok (record draft { place = places.Behind head; when = with_cond draft.when (record { lever = lever; end = e }) })

-- `and` behind the first condition
abbrev pub one_more : DraftFields → Head → List ℕ → Result DraftFields RowsCause
one_more draft head word =
    if is_one draft.when && bytes_eq word (codes "and") then Ok (record draft { place = places.When head })
    else Err causes.NoMore

-- a word behind what stood last
abbrev pub word_onto : DraftFields → Place → List ℕ → Result DraftFields RowsCause
word_onto draft places.Start word = named draft (number_up_to 120 word)
word_onto draft (places.Named lever) word = Err causes.Colon
word_onto draft (places.Line lever) word = labelled draft lever word (row_number_of word)
word_onto draft (places.Numbered lever number) word = begun draft lever number (kind_of word)
word_onto draft (places.Levers head) word = lever_or_when draft head word
word_onto draft (places.When head) word = conditioned draft head (number_up_to 120 word)
word_onto draft (places.Cond head lever) word = ended_by draft head lever (end_of word)
word_onto draft (places.Behind head) word = one_more draft head word
word_onto draft places.Beside word = Ok draft

abbrev pub with_word : List ℕ → DraftFields → Result DraftFields RowsCause
with_word word draft = word_onto draft draft.place word
