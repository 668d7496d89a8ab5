use Rattle.std.proofs.Common.{string_bytes}
use Rattle.line_plan.specs.Plans.{box_at}
use Rattle.box_view.proofs.Lines.{TellsRest}
use Rattle.box_view.proofs.may.put_may.Given as goal

abbrev pub invariant-loop-lever : goal.invariant-loop-lever
invariant-loop-lever l =
    TellsRest l.plan l.line.line l.box_no l.moment (box_at l.plan.boxes l.box_no).levers l.lever-index
    (string_bytes l.fn.out) (string_bytes l.out)
