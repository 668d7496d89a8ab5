use Rattle.std.proofs.Common.{◌≡◌, [], ◌∷◌, ap}
use Rattle.std.proofs.lemmas.Result.{IfOk-weaker}
use Rattle.mark_up.specs.declared.tags.Tag.TheVariants.{Svg}
use Rattle.mark_up.specs.Documents.{PageFields}
use Rattle.line_picture.specs.Pictures.{begun_text}
use Rattle.line_picture.proofs.picture.begun.Goals as goal

pub returns-clause-text : goal.returns-clause-text
unfolding begun_text
returns-clause-text c =
    let text = begun_text c.args.high c.args.name.now c.args.view.now in
    IfOk-weaker c.new.result (λ (page : PageFields). page ≡ record { text = text; open_tags = Svg ∷ [] })
    (λ page. page.text ≡ text) (λ page e. ap (λ (p : PageFields). p.text) e) c.new.ensures
