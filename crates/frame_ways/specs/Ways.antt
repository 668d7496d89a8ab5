-- A way from all levers normal to levers that are reversed together.
use Rattle.std.specs.Prelude.{ℕ, List, Option, Some, None}
use Rattle.locking_table.specs.declared.places.End.{End}
use Rattle.locking_table.specs.declared.row.Row.{Row}
use Rattle.frame_walk.specs.States.{Leads, all_normal}
use Rattle.frame_findings.specs.Findings.{AreReversed}

-- a path of a frame of so many levers that ends with all these levers reversed
pub record IsWay (rows : List Row) (levers : ℕ) (reversed path : List ℕ) : Type 0 where
  pub state : List End
  pub leads : Leads rows (all_normal levers) path state
  pub is_reversed : AreReversed reversed state

-- such a path, if one is found
abbrev pub IsWayIf : List Row → ℕ → List ℕ → Option (List ℕ) → Type 0
IsWayIf rows levers reversed None = Unit {0}
IsWayIf rows levers reversed (Some path) = IsWay rows levers reversed path
