use Rattle.explained_texts.proofs.others.fetch_box.Goals as goal

pub returns-in-Err-clause-explained : goal.returns-in-Err-clause-explained
returns-in-Err-clause-explained g c = c.in-Err.ensures.explained (g.S.Shelf.held c.args.shelf.now)
