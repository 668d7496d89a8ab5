use Rattle.box_view.proofs.block_look.put_welwyn.Goals as goal

pub returns : goal.returns
returns c = rw c.welwyn_word.ensures at c.put_two.ensures
