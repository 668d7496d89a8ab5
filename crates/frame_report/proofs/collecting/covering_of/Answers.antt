use Rattle.std.proofs.Common.{◌+◌, List, Bool, sym, subst}
use Rattle.frame_report.specs.Report.{AreCoveringBefore}
use Rattle.frame_report.proofs.ReportLemmas.{covering_push}
use Rattle.frame_report.proofs.collecting.covering_of.Goals as goal

pub loop-other-preserved : goal.loop-other-preserved
loop-other-preserved c =
    let pushed = c.in_ok-push.ensures.items in
    subst (λ (ms : List Bool). AreCoveringBefore c.args.walk.now c.args.at (c.loop-other.other + 1) ms) (sym pushed)
    (covering_push c.args.walk.now c.args.at c.loop-other.other c.loop-other.covering.items
    c.in_ok-is_in_place.field-0 c.loop-other.invariant c.in_ok-is_in_place.ensures)
