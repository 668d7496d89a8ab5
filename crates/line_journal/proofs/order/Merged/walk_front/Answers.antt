use Rattle.std.proofs.Common.{ℕ, List, ap, arith, length}
use Rattle.std.proofs.lemmas.List.{length-take}
use Rattle.line_law.specs.declared.call.Entry.{Entry}
use Rattle.line_journal.specs.Order.{lists_of}
use Rattle.line_journal.proofs.Walks.{walked_length}
use Rattle.line_journal.proofs.order.Merged.walk_front.Goals as goal

pub slice_bounds-boxes-end : goal.slice_bounds-boxes-end
slice_bounds-boxes-end c =
    let long = walked_length (lists_of c.self.inside.registers.now) c.self.inside.boxes.items c.self.invariant in
    let same = ap (λ (es : List Entry). length es) c.self.view_is in
    let read = ap (λ (bs : List ℕ). length bs) c.deref.ensures.value in
    let front = length-take c.args.many c.deref.result.now in
    omega (arith, long, same, read, front, c.requires)
