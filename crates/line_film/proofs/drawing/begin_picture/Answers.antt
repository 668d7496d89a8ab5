use Rattle.std.proofs.Common.{◌≡◌, ◌∷◌, ◌++◌, ap}
use Rattle.std.proofs.lemmas.Result.{IfOk-weaker}
use Rattle.mark_up.specs.declared.tags.Tag.TheVariants.{Svg}
use Rattle.mark_up.specs.Documents.{PageFields}
use Rattle.line_film.specs.Drawing.{picture_start}
use Rattle.line_film.proofs.drawing.begin_picture.Goals as goal

pub returns-clause-text : goal.returns-clause-text
unfolding picture_start
returns-clause-text c =
    let text = c.args.page.now.text ++ picture_start c.args.high c.args.name.now c.args.view.now in
    IfOk-weaker c.start.result
    (λ done. c.start.new.self ≡ record { text = text; open_tags = Svg ∷ c.args.page.now.open_tags })
    (λ done. c.start.new.self.text ≡ text) (λ done e. ap (λ (p : PageFields). p.text) e) c.start.ensures.ok
