use Rattle.std.proofs.Common.{length}
use Rattle.line_runs.proofs.Counted.{AreCountedTo}
use Rattle.line_runs.proofs.counting.count_along.Given as goal

abbrev pub invariant-loop-entry : goal.invariant-loop-entry
invariant-loop-entry l = AreCountedTo l.plan l.merged l.walk l.refused l.trains.items

abbrev pub decreases-loop-entry : goal.decreases-loop-entry
decreases-loop-entry l = length l.walk
