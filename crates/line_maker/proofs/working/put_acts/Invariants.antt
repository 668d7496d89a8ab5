use Rattle.std.proofs.Common.{◌≡◌, ◌++◌, take}
use Rattle.line_maker.specs.MadeCalls.{calls_at}
use Rattle.line_maker.proofs.working.put_acts.Given as goal

abbrev pub invariant-loop-act : goal.invariant-loop-act
invariant-loop-act l = l.calls.items ≡ l.initial.calls.items ++ calls_at l.moment (take l.act-index l.acts)
