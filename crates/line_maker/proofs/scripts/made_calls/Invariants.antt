use Rattle.std.proofs.Common.{◌≡◌}
use Rattle.line_maker.specs.MadeCalls.{made_calls}
use Rattle.line_maker.proofs.scripts.made_calls.Given as goal

abbrev pub invariant-loop-before : goal.invariant-loop-before
invariant-loop-before l = l.calls.items ≡ made_calls l.at l.before
