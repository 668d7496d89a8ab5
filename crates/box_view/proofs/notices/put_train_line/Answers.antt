use Rattle.box_view.proofs.notices.put_train_line.Goals as goal

pub returns : goal.returns
returns c = rw (c.way_word.ensures, c.train_name.ensures) at c.put_five.ensures
