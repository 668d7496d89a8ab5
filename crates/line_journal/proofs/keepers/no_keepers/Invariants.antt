use Rattle.std.proofs.Common.{◌≡◌, [], replicate}
use Rattle.line_journal.proofs.keepers.no_keepers.Given as goal

abbrev pub invariant-loop : goal.invariant-loop
invariant-loop l = l.keepers.items ≡ replicate l.counter []
