use Rattle.std.proofs.Common.{◌≡◌, ◌++◌, drop, string_bytes}
use Rattle.std.specs.List.{flat_map}
use Rattle.plan_text.specs.Printing.{box_lines, printed}
use Rattle.plan_text.proofs.printing.put_boxes.Given as goal

abbrev pub invariant-loop-box_plan : goal.invariant-loop-box_plan
invariant-loop-box_plan l =
    string_bytes l.out ++ printed (flat_map box_lines (drop l.box_plan-index l.boxes))
    ≡ string_bytes l.initial.out ++ printed (flat_map box_lines l.boxes)
