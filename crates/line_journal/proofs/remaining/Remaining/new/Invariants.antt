use Rattle.std.proofs.Common.{◌≡◌, map, take}
use Rattle.line_journal.specs.Order.{lists_of}
use Rattle.line_journal.proofs.remaining.Remaining.new.Given as goal

abbrev pub invariant-loop-register : goal.invariant-loop-register
invariant-loop-register l = map (λ list. list.now) l.lists.items ≡ lists_of (take l.register-index l.registers)
