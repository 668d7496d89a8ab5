use Rattle.std.proofs.Common.{◌≡◌, ◌-◌, ◌^◌, length, min, take}
use Rattle.std.specs.List.{sum_by}
use Rattle.line_runs.proofs.registers.room_of.Given as goal

abbrev pub invariant-loop-text : goal.invariant-loop-text
invariant-loop-text l = l.room ≡ min (sum_by (λ text. length text.items) (take l.text-index l.texts)) (2 ^ 64 - 1)
