-- A walker on his way.
use Rattle.std.specs.Prelude.{◌≤◌, ℕ, List, All, length}
use Rattle.locking_table.specs.declared.places.End.{End}
use Rattle.locking_table.specs.declared.row.Row.{Row}
use Rattle.locking_table.specs.Places.{at_ends, most_levers}
use Rattle.locking_table.specs.Meaning.{RowHolds}
use Rattle.locking_table.specs.Sound.{RowFits}
use Rattle.frame_walk.specs.States.{Leads, all_normal}

-- the rows of the table, the ends of the levers, and the levers that he has moved, in turn
pub record WalkerFields : Type 0 where
  pub rows : List Row
  pub ends : List End
  pub path : List ℕ

-- He has come from all levers normal to these ends by these moves, and there every row holds.
pub record IsWalker (rows : List Row) (ends : List End) (path : List ℕ) : Type 0 where
  pub few : length ends ≤ most_levers
  pub fit : All (RowFits (length ends)) rows
  pub leads : Leads rows (all_normal (length ends)) path ends
  pub hold : All (RowHolds (at_ends ends)) rows
