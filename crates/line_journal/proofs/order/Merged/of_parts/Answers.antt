use Rattle.std.proofs.Common.{ℕ, List, ap, subst, sym, ◌∙◌}
use Rattle.line_journal.specs.Order.{lists_of}
use Rattle.line_journal.specs.Walks.{IsWalk, walked}
use Rattle.line_journal.proofs.Walks.{parts_walked}
use Rattle.line_journal.proofs.order.Merged.of_parts.Goals as goal

pub new-requires : goal.new-requires
new-requires c =
    subst (λ (bs : List ℕ). IsWalk (lists_of c.args.registers.now) bs) (sym c.in_ok-boxes.ensures)
    (parts_walked c.args.plan.now c.args.entries.now c.args.registers.now c.requires.parts c.requires.boxes).1

pub returns : goal.returns
returns c =
    c.new.ensures ∙ ap (λ (bs : List ℕ). walked (lists_of c.args.registers.now) bs) c.in_ok-boxes.ensures
    ∙ (parts_walked c.args.plan.now c.args.entries.now c.args.registers.now c.requires.parts c.requires.boxes).0
