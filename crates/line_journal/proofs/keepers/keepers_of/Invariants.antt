use Rattle.line_journal.specs.Keepers.{AreKeepersFrom}
use Rattle.line_journal.proofs.keepers.keepers_of.Given as goal

abbrev pub invariant-loop-at : goal.invariant-loop-at
invariant-loop-at l = AreKeepersFrom l.plan l.entries l.at l.keepers.items

abbrev pub decreases-loop-at : goal.decreases-loop-at
decreases-loop-at l = l.at
