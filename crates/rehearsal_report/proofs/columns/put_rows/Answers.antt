use Rattle.rehearsal_report.proofs.Reported.{reports_more}
use Rattle.rehearsal_report.proofs.columns.put_rows.Goals as goal

pub loop-row-preserved : goal.loop-row-preserved
loop-row-preserved c =
    reports_more c.args.rows.now c.loop-row.row-index _ _ _ _ c.loop-row-test.true c.row-item.is c.loop-row.invariant
    c.in_ok-put.ensures
