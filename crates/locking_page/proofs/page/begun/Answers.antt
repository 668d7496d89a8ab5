use Rattle.std.proofs.Common.{◌≡◌, [], ◌∷◌, ap}
use Rattle.std.proofs.lemmas.Result.{IfOk-weaker}
use Rattle.mark_up.specs.declared.tags.Tag.TheVariants.{Html}
use Rattle.mark_up.specs.Documents.{PageFields}
use Rattle.locking_page.specs.Pages.{begun_text}
use Rattle.locking_page.proofs.page.begun.Goals as goal

pub returns-clause-text : goal.returns-clause-text
unfolding begun_text
returns-clause-text c =
    IfOk-weaker c.new.result (λ (page : PageFields). page ≡ record { text = begun_text; open_tags = Html ∷ [] })
    (λ page. page.text ≡ begun_text) (λ page e. ap (λ (p : PageFields). p.text) e) c.new.ensures
