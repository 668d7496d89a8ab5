use Rattle.std.proofs.Common.{List, ap}
use Rattle.block_words.specs.declared.Way.TheVariants.{Up, Down}
use Rattle.line_law.specs.declared.state.Passage.{Passage}
use Rattle.line_law.specs.Decisions.{Told, plain_line_told}
use Rattle.line_law.proofs.state.BoxState.enter_on.Goals as goal

pub returns-in-Up : goal.returns-in-Up
returns-in-Up c =
    rw c.in-Up.is (ap (λ (told : Told (List Passage)). plain_line_told c.args.pair.now Up told) c.enter.ensures)

pub returns-in-Down : goal.returns-in-Down
returns-in-Down c =
    rw c.in-Down.is
    (ap (λ (told : Told (List Passage)). plain_line_told c.args.pair.now Down told) c.enter-in-Down.ensures)
