-- Sights of a section's instrument, and after which histories they are right.
use Rattle.std.specs.Prelude.{◌≡◌, ◌≤◌, List, length}
use mathlib.Core.List.{IsPrefix}
use Rattle.line_plan.specs.Plans.{PlanFields}
use Rattle.line_plan.specs.declared.section.Section.{Section}
use Rattle.line_law.specs.declared.call.Entry.{Entry}
use Rattle.line_law.specs.declared.state.Block.{Block}
use Rattle.line_law.specs.History.{state_of}
use Rattle.line_law.specs.Lines.{pair_in}
use Rattle.line_law.specs.States.{LineState}
use Rattle.line_law.specs.Ways.{of_way}
use Rattle.line_watch.specs.declared.sight.Sight.{Sight}

-- the instrument of a section in a state
abbrev pub instrument_of : LineState → Section → Block
instrument_of state section = of_way (pair_in state section).blocks section.way

-- the instrument of a section after a history
abbrev pub instrument_after : PlanFields → List Entry → Section → Block
instrument_after plan log section = instrument_of (state_of plan log) section

-- a sight of a section is right after a history: it has the turn count, the position and the spent mark of the
-- section's instrument after it
pub record IsRightAfter (plan : PlanFields) (log : List Entry) (section : Section) (sight : Sight) : Type 0 where
  pub turns : sight.turns ≡ (instrument_after plan log section).turns
  pub position : sight.position ≡ (instrument_after plan log section).position
  pub spent : sight.spent ≡ (instrument_after plan log section).spent

-- ---- that an instrument's turn count and spent mark never come back

-- two instruments have the same turn count and the same spent mark
pub record AreMarkedAlike (block other : Block) : Type 0 where
  pub turns : block.turns ≡ other.turns
  pub spent : block.spent ≡ other.spent

-- the shortest beginning of a history after which a sight of a section is right
pub record IsFirstRight (plan : PlanFields) (log : List Entry) (section : Section) (sight : Sight)
    (first : List Entry) : Type 0 where
  pub begins : IsPrefix first log
  pub right : IsRightAfter plan first section sight
  pub shortest : (other : List Entry) → IsPrefix other log → IsRightAfter plan other section sight
      → length first ≤ length other
