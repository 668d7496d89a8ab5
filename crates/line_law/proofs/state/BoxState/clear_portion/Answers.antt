use Rattle.std.proofs.Common.{◌≡◌, ℕ, List, true, Option, Some, None, refl, ap}
use Rattle.std.specs.Option.{is_some}
use Rattle.block_words.specs.declared.Way.TheVariants.{Up, Down}
use Rattle.line_law.specs.declared.state.Incoming.{Incoming}
use Rattle.line_law.specs.declared.state.Passage.{Passage}
use Rattle.line_law.specs.Arrivals.{clear_portion_refusal}
use Rattle.line_law.specs.Decisions.{Told, plain_line_told}
use Rattle.line_law.specs.Ways.{of_way}
use Rattle.line_law.proofs.state.BoxState.clear_portion.Goals as goal

-- where a portion is left, nothing keeps it from being cleared away
may_clear : (portion : Option ℕ) → is_some portion ≡ true → clear_portion_refusal portion ≡ None
may_clear None left = cc
may_clear (Some train) left = refl

of_line : (line there : Incoming) → line ≡ there → is_some line.portion ≡ true
    → clear_portion_refusal there.portion ≡ None
of_line line there e left = rw (← e) (may_clear line.portion left)

pub returns-in-Up : goal.returns-in-Up
returns-in-Up c =
    let may : clear_portion_refusal (of_way c.args.self.now.incoming c.args.way).portion ≡ None =
    of_line c.get.result _ c.get.ensures c.if-is_none.ensures in
    rw (may, c.in-Up.is)
    (ap (λ (told : Told (List Passage)). plain_line_told c.args.pair.now Up told) c.clear_train.ensures)

pub returns-in-Down : goal.returns-in-Down
returns-in-Down c =
    let may : clear_portion_refusal (of_way c.args.self.now.incoming c.args.way).portion ≡ None =
    of_line c.get.result _ c.get.ensures c.if-is_none.ensures in
    rw (may, c.in-Down.is)
    (ap (λ (told : Told (List Passage)). plain_line_told c.args.pair.now Down told) c.clear_train-in-Down.ensures)
