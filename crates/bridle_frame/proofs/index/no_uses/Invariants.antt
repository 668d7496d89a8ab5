use Rattle.std.proofs.Common.{◌≡◌, [], replicate}
use Rattle.bridle_frame.proofs.index.no_uses.Given as goal

abbrev pub invariant-loop : goal.invariant-loop
invariant-loop l = l.uses.items ≡ replicate l.counter []
