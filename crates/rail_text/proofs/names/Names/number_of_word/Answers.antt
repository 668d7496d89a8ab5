use Rattle.std.proofs.Common.{◌∙◌, sym, bytes_eq}
use Rattle.rail_text.proofs.NameLemmas.{position-names}
use Rattle.rail_text.proofs.names.Names.number_of_word.Goals as goal

pub returns-in_err-at-clause-first : goal.returns-in_err-at-clause-first
returns-in_err-at-clause-first c =
    rw (← c.self.view_is, c.from_residual.ensures, position-names (bytes_eq c.args.word.now) c.self.inside.set.keys)
    (sym c.in_err-at.was ∙ c.get_index_of.ensures.index)

pub returns-clause-first : goal.returns-clause-first
returns-clause-first c =
    rw (← c.self.view_is, position-names (bytes_eq c.args.word.now) c.self.inside.set.keys)
    (sym c.in_ok-at.was ∙ c.get_index_of.ensures.index)
