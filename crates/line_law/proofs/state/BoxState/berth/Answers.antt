use Rattle.std.proofs.Common.{◌≡◌, List, None, ap, sym}
use Rattle.block_words.specs.declared.Way.TheVariants.{Up, Down}
use Rattle.line_law.specs.declared.state.Passage.{Passage}
use Rattle.line_law.specs.Arrivals.{berth_refusal}
use Rattle.line_law.specs.Decisions.{Told, plain_line_told}
use Rattle.line_law.proofs.state.BoxState.berth.Goals as goal

pub returns-in-Up : goal.returns-in-Up
returns-in-Up c =
    let may : berth_refusal c.args.self.now c.args.way c.args.berth.now ≡ None = sym c.in_default.ensures in
    rw (may, c.in-Up.is)
    (ap (λ (told : Told (List Passage)). plain_line_told c.args.pair.now Up told) c.berth_train.ensures)

pub returns-in-Down : goal.returns-in-Down
returns-in-Down c =
    let may : berth_refusal c.args.self.now c.args.way c.args.berth.now ≡ None = sym c.in_default.ensures in
    rw (may, c.in-Down.is)
    (ap (λ (told : Told (List Passage)). plain_line_told c.args.pair.now Down told) c.berth_train-in-Down.ensures)
