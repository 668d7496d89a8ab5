use Rattle.frame_report.specs.Report.{AreCoveringBefore}
use Rattle.frame_report.proofs.collecting.covering_of.Given as goal

abbrev pub invariant-loop-other : goal.invariant-loop-other
invariant-loop-other l = AreCoveringBefore l.walk l.at l.other l.covering.items
