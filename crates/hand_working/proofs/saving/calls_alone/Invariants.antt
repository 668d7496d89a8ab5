use Rattle.std.proofs.Common.{◌≡◌, map, take}
use Rattle.hand_working.proofs.saving.calls_alone.Given as goal

abbrev pub invariant-loop-one : goal.invariant-loop-one
invariant-loop-one l = l.calls.items ≡ map (λ m. m.call) (take l.one-index l.made)
