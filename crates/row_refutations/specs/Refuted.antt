-- What rows refute by themselves: that levers are ever reversed together.
use Rattle.std.specs.Prelude.{ℕ, ◌<◌, List, Option, Some, None, All, length, map, slice_index_or}
use Rattle.locking_table.specs.declared.places.End.{End}
use Rattle.locking_table.specs.declared.row.Row.{Row}
use Rattle.locking_table.specs.Index.{no_row}
use Rattle.locking_table.specs.Meaning.{RowHolds}
use Rattle.locking_table.specs.Places.{at_ends}
use Rattle.frame_findings.specs.Findings.{AreReversed}

-- these rows hold in a state, as all rows of a table do in each state that can be reached
abbrev pub HoldIn : List Row → List End → Type 0
HoldIn rows state = All (RowHolds (at_ends state)) rows

-- in no state in which these rows hold are all these levers reversed
abbrev pub Refute : List Row → List ℕ → Type 0
Refute rows levers = (state : List End) → HoldIn rows state → ¬ AreReversed levers state

-- the rows at these places, from 0
abbrev pub rows_at : List Row → List ℕ → List Row
rows_at rows places = map (λ at. slice_index_or rows at no_row) places

-- rows of a table, by their places, that refute it
pub record AreRefuting (rows : List Row) (levers places : List ℕ) : Type 0 where
  pub within : All (λ at. at < length rows) places
  pub refute : Refute (rows_at rows places) levers

-- the same where there are such rows
abbrev pub IsRefutation : List Row → List ℕ → Option (List ℕ) → Type 0
IsRefutation rows levers None = Unit {0}
IsRefutation rows levers (Some places) = AreRefuting rows levers places
