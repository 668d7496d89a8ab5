use Rattle.std.proofs.Common.{take}
use Rattle.frame_findings.specs.Findings.{AreReversed}
use Rattle.frame_ways.proofs.walker.Walker.first_normal.Given as goal

abbrev pub invariant-loop-lever : goal.invariant-loop-lever
invariant-loop-lever l = AreReversed (take l.lever-index l.levers) l.self.ends
