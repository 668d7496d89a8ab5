-- The authorities for a train to be in a section, and what controls it.
use Rattle.std.specs.Prelude.{ℕ, ◌+◌, List, Option, None, Some, Bool, true, false, length}
use Rattle.line_plan.specs.Plans.{PlanFields}
use Rattle.line_plan.specs.Sections.{advance_of, section_berth, section_starter}
use Rattle.line_plan.specs.declared.berth.Berth.{Berth}
use Rattle.line_plan.specs.declared.section.Section.{Section}
use Rattle.line_plan.specs.declared.signal.Signal.{Signal}
use Rattle.line_law.specs.declared.state.Block.{Block}
use Rattle.line_law.specs.declared.state.BoxState.{BoxState}
use Rattle.line_law.specs.declared.state.Control.{Control}
use Rattle.line_law.specs.declared.state.Passage.{Passage}
use Rattle.line_law.specs.Levers.{is_unspent_clear}
use Rattle.line_law.specs.Lines.{plain_line_of, pair_in}
use Rattle.line_law.specs.Sections.{berth_count}
use Rattle.line_law.specs.States.{LineState, box_at}
use Rattle.line_law.specs.LeverEnds.{is_off}
use Rattle.line_law.specs.Ways.{of_way}

-- one where it is so
abbrev pub count_if : Bool → ℕ
count_if false = 0
count_if true = 1

-- one where the arm of the starter is off; a section without a starter has no arm
abbrev pub arm_count : Option Signal → BoxState → ℕ
arm_count None rear = 0
arm_count (Some starter) rear = count_if (is_off rear.off starter.lever)

-- How many authorities there are for a train to be in a section: one for Line Clear unspent on its instrument, one for
-- its starter's arm off, the trains on its plain line, and one for a train in its berth. A section without a starter
-- has no arm, and one without a berth has nothing to occupy; its commutator is never turned, and so no train enters it.
abbrev pub authority_count : Option Signal → Option Berth → BoxState → BoxState → Block → List Passage → ℕ
authority_count starter berth rear advance block line =
    count_if (is_unspent_clear block) + arm_count starter rear + length line + berth_count berth advance

-- how many authorities there are in a section of a line
abbrev pub authorities : PlanFields → LineState → Section → ℕ
authorities plan state section =
    authority_count (section_starter plan section) (section_berth plan section) (box_at state section.rear)
    (box_at state (advance_of section)) (of_way (pair_in state section).blocks section.way)
    (plain_line_of state section)

-- what controls a section, at its box in advance
abbrev pub control_in : LineState → Section → Control
control_in state section = (of_way (box_at state (advance_of section)).incoming section.way).control

-- of how many trains a line is permissive, if it isn't absolute; one without a berth is absolute
abbrev pub permit_at : Option Berth → Option ℕ
permit_at None = None
permit_at (Some berth) = berth.permissive

-- of how many trains a section is permissive, if it isn't absolute
abbrev pub permit_of : PlanFields → Section → Option ℕ
permit_of plan section = permit_at (section_berth plan section)
