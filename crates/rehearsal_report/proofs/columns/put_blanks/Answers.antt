use Rattle.rehearsal_report.proofs.Reported.{three_more}
use Rattle.rehearsal_report.proofs.columns.put_blanks.Goals as goal

pub returns : goal.returns
returns c =
    three_more c.loop.counter _ _ _ c.loop.invariant c.in_ok-push_str.ensures.bytes
