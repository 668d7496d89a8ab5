use Rattle.std.proofs.Common.{◌≡◌, map, take}
use Rattle.line_journal.proofs.order.boxes_of.Given as goal

abbrev pub invariant-loop-entry : goal.invariant-loop-entry
invariant-loop-entry l = l.boxes.items ≡ map (λ e. e.box_no) (take l.entry-index l.entries)
