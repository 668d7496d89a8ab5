use Rattle.std.proofs.Common.{◌≡◌, ◌++◌, drop}
use Rattle.plan_check.specs.Found.{boxes_findings}
use Rattle.plan_check.proofs.check.add_boxes.Given as goal

abbrev pub invariant-loop-box_no : goal.invariant-loop-box_no
invariant-loop-box_no l =
    l.found.items ++ boxes_findings l.box_no (drop l.box_no l.plan.boxes)
    ≡ l.fn.found.items ++ boxes_findings 0 l.plan.boxes
