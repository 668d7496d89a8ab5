use Rattle.frame_report.specs.Report.{AreHoldingBefore}
use Rattle.frame_report.proofs.collecting.holding_of.Given as goal

abbrev pub invariant-loop-row : goal.invariant-loop-row
invariant-loop-row l = AreHoldingBefore l.walk l.lever l.row-index l.holding.items
