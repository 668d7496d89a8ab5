use Rattle.train_register.proofs.Parts.{parts_text}
use Rattle.train_register.proofs.printing.put_in_order.Goals as goal

pub returns-clause-parts : goal.returns-clause-parts
returns-clause-parts c =
    λ es parts. rw (← parts_text c.args.plan.now es c.args.ended.now.registers parts, ← c.as_slice.ensures)
    c.put_each.ensures
