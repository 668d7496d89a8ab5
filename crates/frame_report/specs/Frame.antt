-- The levers that a frame has, numbered from 1 in their order, and its rows by these numbers.
use Rattle.std.specs.Prelude.{◌≡◌, ℕ, ◌+◌, ◌==◌, List, Option, Some, None, All, length, map, position}
use Rattle.locking_table.specs.declared.row.Cond.{Cond}
use Rattle.locking_table.specs.declared.row.Row.{Row}
use Rattle.locking_table.specs.Sound.{IsRow, RowFits}

abbrev pub place_at : Option ℕ → ℕ
place_at None = 0
place_at (Some at) = at + 1

-- the place, from 1, of a lever among those that a frame has; 0 where it hasn't it
abbrev pub place_of : List ℕ → ℕ → ℕ
place_of numbers lever = place_at (position (λ number. number == lever) numbers)

abbrev pub cond_in : List ℕ → Cond → Cond
cond_in numbers cond = record { lever = place_of numbers cond.lever; end = cond.end }

-- a row by the places of its levers
abbrev pub row_in : List ℕ → Row → Row
row_in numbers row = record {
  subject = place_of numbers row.subject;
  kind = row.kind;
  object = place_of numbers row.object;
  when = map (cond_in numbers) row.when;
}

abbrev pub rows_in : List ℕ → List Row → List Row
rows_in numbers rows = map (row_in numbers) rows

-- some text spells the row, and a frame of so many levers has each lever that it names
pub record IsFrameRow (levers : ℕ) (row : Row) : Type 0 where
  pub spelled : IsRow row
  pub fits : RowFits levers row

-- the rows name levers of the frame alone, in each row different ones
abbrev pub IsFrame : List ℕ → List Row → Type 0
IsFrame numbers rows = All (IsFrameRow (length numbers)) (rows_in numbers rows)

-- the table by the places of the levers, or that a row names a lever that the frame hasn't
abbrev pub IsFrameOf : List ℕ → List Row → Option (List Row) → Type 0
IsFrameOf numbers rows None = ¬ IsFrame numbers rows
IsFrameOf numbers rows (Some frame) = IsFrame numbers rows × (frame ≡ rows_in numbers rows)
