use Rattle.line_journal.specs.Merging.{AreTallies}
use Rattle.line_journal.proofs.merging.tallies_in.Given as goal

abbrev pub invariant-loop-at : goal.invariant-loop-at
invariant-loop-at l = AreTallies l.entries l.at
