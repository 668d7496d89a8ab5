-- What ends a word, and what it does.
use Rattle.std.specs.Prelude.{ℕ, ◌||◌, ◌==◌, List, [], ◌∷◌, ◌++◌, Bool, Result, Ok, Err}
use Rattle.std.specs.Prelude.{if◌then◌else◌}
use Rattle.locking_table.specs.declared.row.Cond.{Cond}
use Rattle.locking_table.specs.declared.row.Row.{Row}
use Rattle.locking_table.specs.Reading.{◌>>=◌}
use Rattle.locking_table.specs.Sound.{all_differ, levers_of}
use Rattle.row_texts.specs.declared.cause.RowsCause.{RowsCause}
use Rattle.row_texts.specs.declared.cause.RowsCause.TheVariants as causes
use Rattle.row_texts.specs.declared.draft.Entry.{Entry}
use Rattle.row_texts.specs.declared.draft.Head.{Head}
use Rattle.row_texts.specs.declared.draft.Place.{Place}
use Rattle.row_texts.specs.declared.draft.Place.TheVariants as places
use Rattle.row_texts.specs.Drafts.{DraftFields}
use Rattle.row_texts.specs.Items.{has_lever}

-- a line end, tab, carriage return, space, comma, semicolon, colon or bar
abbrev pub ends_word : ℕ → Bool
ends_word b =
    b == 10 || (b == 9 || (b == 13 || (b == 32 || (b == 44 || (b == 59 || (b == 58 || b == 124))))))

-- the row that an item has of one of its levers
abbrev pub row_by : Head → List Cond → ℕ → Row
row_by head when lever = record { subject = head.lever; kind = head.kind; object = lever; when = when }

-- the item's rows behind others; all levers of a row differ
abbrev pub rows_onto : Head → List Cond → List Entry → List ℕ → Result (List Entry) RowsCause
rows_onto head when entries [] = Ok entries
rows_onto head when entries (lever ∷ levers) =
    if all_differ (levers_of (row_by head when lever))
    then rows_onto head when (entries ++ record { row = row_by head when lever; number = head.number } ∷ []) levers
    else Err causes.SameLever

-- the item has ended
abbrev pub item_ended : Head → DraftFields → Result DraftFields RowsCause
item_ended head draft =
    rows_onto head draft.when draft.entries draft.levers
    >>= λ entries. Ok (record { place = places.Line head.lever; levers = []; when = []; entries = entries })

-- the same of an item that has a lever at least
abbrev pub some_ended : Head → DraftFields → Result DraftFields RowsCause
some_ended head draft = if has_lever draft.levers then item_ended head draft else Err causes.CutShort

-- what was begun has ended, if anything was
abbrev pub ended_at : DraftFields → Place → Result DraftFields RowsCause
ended_at draft places.Start = Ok draft
ended_at draft (places.Named lever) = Err causes.Colon
ended_at draft (places.Line lever) = Ok draft
ended_at draft (places.Numbered lever number) = Err causes.CutShort
ended_at draft (places.Levers head) = some_ended head draft
ended_at draft (places.When head) = Err causes.CutShort
ended_at draft (places.Cond head lever) = Err causes.CutShort
ended_at draft (places.Behind head) = item_ended head draft
ended_at draft places.Beside = Ok draft

abbrev pub ended : DraftFields → Result DraftFields RowsCause
ended draft = ended_at draft draft.place

-- a line has ended, or what is read of it
abbrev pub ended_to : Place → DraftFields → Result DraftFields RowsCause
ended_to place draft = ended draft >>= λ next. Ok (record next { place = place })

-- a semicolon, which stands in the line of a lever
abbrev pub semicolon_at : DraftFields → Place → Result DraftFields RowsCause
semicolon_at draft places.Start = Err causes.NoLever
semicolon_at draft other = ended draft

abbrev pub semicolon : DraftFields → Result DraftFields RowsCause
semicolon draft = semicolon_at draft draft.place

-- a colon, which stands behind the number of the line's lever
abbrev pub colon_at : DraftFields → Place → Result DraftFields RowsCause
colon_at draft (places.Named lever) = Ok (record draft { place = places.Line lever })
colon_at draft other = Err causes.Colon

abbrev pub colon : DraftFields → Result DraftFields RowsCause
colon draft = colon_at draft draft.place

-- what ended a word
abbrev pub marked : ℕ → DraftFields → Result DraftFields RowsCause
marked b draft =
    if b == 10 then ended_to places.Start draft
    else if b == 59 then semicolon draft
    else if b == 58 then colon draft
    else if b == 124 then ended_to places.Beside draft
    else Ok draft
