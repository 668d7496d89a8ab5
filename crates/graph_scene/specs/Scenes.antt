-- What a train graph shows.
use Rattle.std.specs.Prelude.{List}
use Rattle.line_law.specs.declared.call.Entry.{Entry}
use Rattle.line_plan.specs.Plans.{PlanFields}
use Rattle.graph_scene.specs.declared.scene.Scene.{Scene}
use Rattle.graph_scene.specs.Lines.{lines_of}
use Rattle.graph_scene.specs.Moments.{axis_of}
use Rattle.graph_scene.specs.Turns.{bars_of}

-- what is shown of a journal: the lines of trains, the bars of instruments, and how far to the right each entry stands
abbrev pub scene_of : PlanFields → List Entry → Scene
scene_of plan es = record { lines = lines_of plan es; bars = bars_of es; axis = axis_of plan es }
