-- The index of a table: for each lever the rows that may hold it.
use Rattle.std.specs.Prelude.{ℕ, ◌≡◌, ◌+◌, ◌<◌, ◌^◌, List, [], ◌∷◌, ◌++◌, Bool, ◌==◌, if◌then◌else◌, Option, Some, None}
use Rattle.std.specs.Prelude.{All, length, slice_index_or}
use Rattle.std.specs.List.{list_any}
use Rattle.locking_table.specs.declared.places.End.{End}
use Rattle.locking_table.specs.declared.row.Holder.{Holder}
use Rattle.locking_table.specs.declared.row.Row.{Row}
use Rattle.locking_table.specs.declared.row.RowKind.{RowKind}
use Rattle.locking_table.specs.declared.row.RowKind.TheVariants.{LocksNormal, ReleasedBy, LocksBoth}
use Rattle.locking_table.specs.Meaning.{holding_lever, row_allows}
use Rattle.locking_table.specs.Sound.{IsRow, levers_of}

-- the levers on which a row of a kind bears: one that locks both ways bears on its object alone, for between two moves
-- every other lever stands at an end
abbrev pub levers_under : RowKind → Row → List ℕ
levers_under LocksNormal row = levers_of row
levers_under ReleasedBy row = levers_of row
levers_under LocksBoth row = row.object ∷ []

-- the levers that a row may hold
abbrev pub levers_held : Row → List ℕ
levers_held row = levers_under row.kind row

-- the row may hold the lever
abbrev pub bears : ℕ → Row → Bool
bears lever row = list_any (λ n. n == lever) (levers_held row)

-- the row names the lever: as its subject, as its object or in a condition
abbrev pub names : ℕ → Row → Bool
names lever row = list_any (λ n. n == lever) (levers_of row)

-- the numbers, counted on from a number, of the rows that may hold a lever, in table order
abbrev pub bearing : ℕ → ℕ → List Row → List ℕ
bearing from lever [] = []
bearing from lever (row ∷ rows) =
    if bears lever row then from ∷ bearing (from + 1) lever rows else bearing (from + 1) lever rows

-- for each lever the numbers, from 0, of the rows that may hold it
abbrev pub IsIndex : List Row → List (List ℕ) → Type 0
IsIndex rows uses = (lever : ℕ) → slice_index_or uses lever [] ≡ bearing 0 lever rows

-- what the type of a table keeps
pub record IsTable (rows : List Row) (uses : List (List ℕ)) : Type 0 where
  pub few : length rows < 2 ^ 32
  pub each : All IsRow rows
  pub index : IsIndex rows uses

-- for each lever both have the same rows
abbrev pub AreAlike : List (List ℕ) → List (List ℕ) → Type 0
AreAlike old new = (lever : ℕ) → slice_index_or new lever [] ≡ slice_index_or old lever []

-- the number, where there is to be one
abbrev pub once : Bool → ℕ → List ℕ
once test number = if test then number ∷ [] else []

-- each of these levers has one row more, of that number, and any other lever the same rows
abbrev pub AreFiled : List (List ℕ) → List ℕ → ℕ → List (List ℕ) → Type 0
AreFiled old levers number new = (lever : ℕ)
    → slice_index_or new lever [] ≡ slice_index_or old lever [] ++ once (list_any (λ n. n == lever) levers) number

abbrev pub no_row : Row
no_row = record { subject = 0; kind = LocksNormal; object = 0; when = [] }

-- of the rows with these numbers, from 0, the first that doesn't let a lever move, numbered from 1, with the lever that
-- it names
abbrev pub first_of : List End → ℕ → List Row → List ℕ → Option Holder
first_of ends lever rows [] = None
first_of ends lever rows (n ∷ ns) =
    if row_allows ends lever (slice_index_or rows n no_row) then first_of ends lever rows ns
    else Some (record { lever = holding_lever (slice_index_or rows n no_row) lever; row = n + 1 })
