use Rattle.rehearsal_report.proofs.Counting.{AreCounted}
use Rattle.rehearsal_report.proofs.call_numbers.number_calls.Given as goal

abbrev pub invariant-loop-entry : goal.invariant-loop-entry
invariant-loop-entry l = AreCounted l.boxes l.entries l.entry-index l.counts.items l.numbers.items
