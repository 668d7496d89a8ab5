use Rattle.std.proofs.Common.{◌≡◌, ◌++◌, string_bytes, take}
use Rattle.line_plan.specs.Plans.{box_at}
use Rattle.box_view.specs.Look.{move_lines}
use Rattle.box_view.proofs.look.put_move_lines.Given as goal

abbrev pub invariant-loop-lever : goal.invariant-loop-lever
invariant-loop-lever l =
    string_bytes l.out ≡ string_bytes l.fn.out
    ++ move_lines l.plan l.line.line l.box_no l.moment
    (take l.lever-index (box_at l.plan.boxes l.box_no).levers)
