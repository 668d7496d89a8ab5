use Rattle.std.proofs.Common.{◌≡◌, true, replicate}
use Rattle.line_journal.proofs.merging.all_awake.Given as goal

abbrev pub invariant-loop : goal.invariant-loop
invariant-loop l = l.awake.items ≡ replicate l.counter true
