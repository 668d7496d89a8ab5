-- What a way that was found tells.
use Rattle.std.proofs.Common.{ℕ, List, [], ◌∷◌, refl}
use Rattle.locking_table.specs.declared.places.End.{End}
use Rattle.locking_table.specs.declared.row.Row.{Row}
use Rattle.frame_walk.specs.States.{IsReachable, Leads, Moved, Normally, after_move, all_normal}
use Rattle.frame_walk.specs.Walked.{Walked}
use Rattle.frame_findings.specs.Findings.{CanBeReversed}
use Rattle.frame_ways.specs.Ways.{IsWay}

-- whatever a path leads to from a state that can be reached can be reached
reached_along : (rows : List Row) (levers : ℕ) (path : List ℕ) (from to : List End) → IsReachable rows levers from
    → Leads rows from path to → IsReachable rows levers to
reached_along rows levers [] from to reachable leads = rw leads reachable
reached_along rows levers (lever ∷ path) from to reachable leads =
    reached_along rows levers path (after_move from lever) to (Moved reachable leads.0 refl) leads.1

-- on a way that was found levers come to be reversed together, so they can be
pub way_found : (w : Walked) (levers path : List ℕ) → IsWay w.rows w.levers levers path → CanBeReversed w levers
way_found w levers path way = record {
  state = way.state;
  reachable = reached_along w.rows w.levers path (all_normal w.levers) way.state (Normally refl) way.leads;
  reversed = way.is_reversed;
}
