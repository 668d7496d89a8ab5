use Rattle.frame_report.specs.Report.{AreCircles}
use Rattle.frame_report.proofs.circling.rounds_of.Given as goal

abbrev pub invariant-loop-i : goal.invariant-loop-i
invariant-loop-i l = AreCircles l.walk l.holders l.i l.circles.items
