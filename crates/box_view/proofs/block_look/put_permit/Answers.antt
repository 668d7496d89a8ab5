use Rattle.box_view.proofs.block_look.put_permit.Goals as goal

pub returns : goal.returns
returns c = rw c.from.ensures at c.put_count.ensures
