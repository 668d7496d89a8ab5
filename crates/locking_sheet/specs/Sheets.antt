-- For each lever its rows, and those of other levers that name it behind what they say.
use Rattle.std.specs.Prelude.{ℕ, List, [], map, slice_index_or}
use Rattle.locking_table.specs.declared.row.Row.{Row}
use Rattle.locking_table.specs.Index.{no_row}
use Rattle.locking_table.specs.Places.{most_levers}
use Rattle.row_texts.specs.Places.{AreFiled}

abbrev pub subjects_of : List Row → List ℕ
subjects_of rows = map (λ row. row.subject) rows

abbrev pub objects_of : List Row → List ℕ
objects_of rows = map (λ row. row.object) rows

-- a locking table, as contracts see it: for each lever the places, from 0, of its own rows, and of those whose object
-- it is
pub record SheetFields : Type 0 where
  pub own : List (List ℕ)
  pub converse : List (List ℕ)

-- the places of a lever
abbrev pub places_at : List (List ℕ) → ℕ → List ℕ
places_at lists lever = slice_index_or lists lever []

-- each lever has its rows: those of which it is the subject, and beside them their converse, those of which it is the
-- object
pub record IsSheet (rows : List Row) (sheet : SheetFields) : Type 0 where
  pub own : AreFiled most_levers (subjects_of rows) sheet.own
  pub converse : AreFiled most_levers (objects_of rows) sheet.converse

-- the row at a place, from 0
abbrev pub row_at : List Row → ℕ → Row
row_at rows place = slice_index_or rows place no_row
