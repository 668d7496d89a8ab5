-- What is seen of a line.
use Rattle.std.specs.Prelude.{◌-◌, List, ◌++◌, length}
use Rattle.line_law.specs.declared.call.Entry.{Entry}
use Rattle.line_law.specs.History.{state_of}
use Rattle.line_law.specs.States.{LineState}
use Rattle.line_plan.specs.Plans.{PlanFields}
use Rattle.line_scene.specs.declared.scene.Scene.{Scene}
use Rattle.line_scene.specs.declared.shown.Shown.{Shown}
use Rattle.line_scene.specs.Boxes.{boxes_shown}
use Rattle.line_scene.specs.Diagrams.{diagrams_of}
use Rattle.line_scene.specs.Sections.{sections_shown}

-- what is seen of a line in a state: of each box its places, arms and levers, and then of each section its instrument,
-- its bell and its trains
abbrev pub things_of : PlanFields → LineState → List Shown
things_of plan state =
    boxes_shown state (diagrams_of plan.boxes) 0 plan.boxes ++ sections_shown plan state (length plan.boxes - 1)

-- what is seen of a line behind the entries of a journal, with the diagrams of its boxes
abbrev pub scene_after : PlanFields → List Entry → Scene
scene_after plan es =
    record { diagrams = diagrams_of plan.boxes; shown = things_of plan (state_of plan es) }
