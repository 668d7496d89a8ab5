use Rattle.std.proofs.Common.{◌≡◌, ◌-◌, ◌^◌, min, length, take}
use Rattle.std.specs.List.{sum_by}
use Rattle.line_journal.proofs.remaining.Remaining.count.Given as goal

abbrev pub invariant-loop-box_no : goal.invariant-loop-box_no
invariant-loop-box_no l = l.count ≡ min (sum_by (λ list. length list) (take l.box_no l.self)) (2 ^ 64 - 1)
