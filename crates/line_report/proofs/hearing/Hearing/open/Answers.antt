use Rattle.line_report.proofs.HeardMore.{heard_none}
use Rattle.line_report.proofs.hearing.Hearing.open.Goals as goal

pub invariant_of-result : goal.invariant_of-result
invariant_of-result c =
    rw (c.in_ok-reader.ensures.start, c.in_ok-judge.ensures) (heard_none c.args.plan.now)
