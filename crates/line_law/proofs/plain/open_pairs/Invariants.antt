use Rattle.std.proofs.Common.{◌≡◌, replicate}
use Rattle.line_law.specs.States.{opening_pair}
use Rattle.line_law.proofs.plain.open_pairs.Given as goal

abbrev pub invariant-loop : goal.invariant-loop
invariant-loop l = l.pairs.items ≡ replicate l.counter opening_pair
