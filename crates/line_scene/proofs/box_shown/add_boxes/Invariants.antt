use Rattle.std.proofs.Common.{◌≡◌, ◌++◌, drop}
use Rattle.line_scene.specs.Boxes.{boxes_shown}
use Rattle.line_scene.proofs.box_shown.add_boxes.Given as goal

abbrev pub invariant-loop-at : goal.invariant-loop-at
invariant-loop-at l =
    l.shown.items ++ boxes_shown l.line.line l.diagrams l.at (drop l.at l.plan.boxes)
    ≡ l.fn.shown.items ++ boxes_shown l.line.line l.diagrams 0 l.plan.boxes
