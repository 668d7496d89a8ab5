use Rattle.std.proofs.Common.{◌≡◌, ◌++◌, drop}
use Rattle.line_scene.specs.Diagrams.{diagrams_of}
use Rattle.line_scene.proofs.diagram.diagrams_by.Given as goal

abbrev pub invariant-loop-box_plan : goal.invariant-loop-box_plan
invariant-loop-box_plan l =
    l.diagrams.items ++ diagrams_of (drop l.box_plan-index l.boxes) ≡ diagrams_of l.boxes
