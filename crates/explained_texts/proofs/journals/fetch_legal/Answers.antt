use Rattle.explained_texts.proofs.journals.fetch_legal.Goals as goal

pub returns-clause-explained : goal.returns-clause-explained
returns-clause-explained g c = c.legal_only.ensures.explained (g.S.Shelf.held c.args.shelf.now)
