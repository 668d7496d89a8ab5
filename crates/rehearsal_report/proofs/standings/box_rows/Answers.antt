use Rattle.rehearsal_report.proofs.Standing.{rows_all, rows_more}
use Rattle.rehearsal_report.proofs.standings.box_rows.Goals as goal

pub loop-box_no-preserved : goal.loop-box_no-preserved
loop-box_no-preserved c =
    rows_more c.args.account.now.plan.now c.args.account.now.scripts.now c.args.account.now.texts.now
    c.args.account.now.rehearsal.now c.loop-box_no.box_no _ _ _ _ c.loop-box_no-test.true c.loop-box_no.invariant
    c.in_ok-box_row.ensures c.in_ok-push.ensures.items

pub returns : goal.returns
returns c =
    rows_all c.args.account.now.plan.now c.args.account.now.scripts.now c.args.account.now.texts.now
    c.args.account.now.rehearsal.now c.loop-box_no.box_no _ _ c.loop-box_no-test.false c.loop-box_no.invariant
