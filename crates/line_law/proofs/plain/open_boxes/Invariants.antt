use Rattle.std.proofs.Common.{◌≡◌, map, take}
use Rattle.line_law.specs.States.{opening_box}
use Rattle.line_law.proofs.plain.open_boxes.Given as goal

abbrev pub invariant-loop-box_plan : goal.invariant-loop-box_plan
invariant-loop-box_plan l =
    l.opened.items ≡ map (λ box_plan. opening_box l.trains box_plan) (take l.box_plan-index l.boxes)
