use Rattle.std.proofs.Common.{◌≤◌}
use Rattle.rehearsal_report.proofs.stop_sentences.last_change.Given as goal

abbrev pub invariant-loop-entry : goal.invariant-loop-entry
invariant-loop-entry l = l.number ≤ l.entry-index
