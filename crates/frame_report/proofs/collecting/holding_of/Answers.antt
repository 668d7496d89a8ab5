use Rattle.std.proofs.Common.{◌+◌, ◌<◌, List, Bool, length, sym, subst, ◌∙◌, arith}
use Rattle.frame_report.specs.Report.{AreHoldingBefore}
use Rattle.frame_report.proofs.FrameLemmas.{row_is}
use Rattle.frame_report.proofs.ReportLemmas.{holding_push}
use Rattle.frame_report.proofs.collecting.holding_of.Goals as goal

pub loop-row-preserved : goal.loop-row-preserved
loop-row-preserved c =
    let lt : c.loop-row.row-index < length c.rows-row-items.result.now = omega arith in
    let pushed = c.in_ok-push.ensures.items in
    subst (λ (ms : List Bool). AreHoldingBefore c.args.walk.now c.args.lever (c.loop-row.row-index + 1) ms) (sym pushed)
    (holding_push c.args.walk.now c.args.lever c.loop-row.row-index c.loop-row.holding.items
    c.in_ok-holds_always.field-0 c.row-item.result c.loop-row.invariant
    (row_is c.args.walk.now.rows c.rows-row-items.result.now c.loop-row.row-index c.row-item.result
    (c.rows-row-items.ensures.rows ∙ c.table.ensures) lt c.row-item.is)
    c.in_ok-holds_always.ensures)
