use Rattle.std.proofs.Common.{◌≡◌, ◌++◌, length}
use Rattle.line_journal.proofs.merging.copied.Given as goal

abbrev pub invariant-loop-entry : goal.invariant-loop-entry
invariant-loop-entry l = l.merged ≡ l.copied.items ++ l.walk

abbrev pub decreases-loop-entry : goal.decreases-loop-entry
decreases-loop-entry l = length l.walk
