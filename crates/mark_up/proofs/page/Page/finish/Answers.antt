use Rattle.std.proofs.Common.{◌∙◌, ap, length}
use Rattle.mark_up.proofs.Growing.{finished}
use Rattle.mark_up.proofs.page.Page.finish.Goals as goal

pub returns-clause-document : goal.returns-clause-document
returns-clause-document c =
    finished _ _ c.self.inside.open_tags.items c.index.result.now
    (ap (λ page. length page.open_tags) c.self.view_is ∙ c.requires)
    c.self.invariant c.index.ensures c.in_ok-put_end.ensures
