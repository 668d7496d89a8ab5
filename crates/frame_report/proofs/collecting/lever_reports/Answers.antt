use Rattle.frame_report.proofs.ReportLemmas.{levers_push}
use Rattle.frame_report.proofs.collecting.lever_reports.Goals as goal

pub loop-i-preserved : goal.loop-i-preserved
loop-i-preserved c =
    rw c.in_ok-push.ensures.items
    (levers_push c.args.walk.now c.args.numbers.now c.loop-i.i c.loop-i.reports.items c.in_ok-lever_report.field-0
    c.loop-i.invariant c.in_ok-lever_report.ensures)
