use Rattle.std.proofs.Common.{◌-◌}
use Rattle.frame_report.specs.Report.{AreTogether}
use Rattle.frame_report.proofs.collecting.others_of.Given as goal

abbrev pub invariant-loop-k : goal.invariant-loop-k
invariant-loop-k l = AreTogether l.walk l.lever (l.k - 1) l.others.items
