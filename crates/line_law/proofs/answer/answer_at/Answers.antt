use Rattle.std.proofs.Common.{◌≡◌, ℕ, List, Option, Some, None, refl, sym, ap, ◌∙◌}
use Rattle.line_law.specs.declared.state.BoxState.{BoxState}
use Rattle.line_law.specs.declared.state.PairState.{PairState}
use Rattle.line_law.specs.declared.state.Passage.{Passage}
use Rattle.line_law.specs.Arrivals.{next_number, next_train, train_awaited}
use Rattle.line_law.specs.Decisions.{Told}
use Rattle.line_law.specs.Law.{at_moment}
use Rattle.line_law.specs.Ways.{of_way}
use Rattle.line_law.proofs.Clears.{berth_here}
use Rattle.line_law.proofs.answer.answer_at.Goals as goal

pub turn_reply-requires-clause-berth : goal.turn_reply-requires-clause-berth
turn_reply-requires-clause-berth c =
    berth_here _ _ _ _ c.in-Some.berth.now c.requires.ready.sound c.requires.ready.shape (sym c.in-Some.ensures)

pub berth_reply-requires-clause-place : goal.berth_reply-requires-clause-place
berth_reply-requires-clause-place c =
    (berth_here _ _ _ _ c.in-Some-berth.berth.now c.requires.ready.sound c.requires.ready.shape
    (sym c.in-Some-berth.ensures)).place

pub part_reply-requires-clause-place : goal.part_reply-requires-clause-place
part_reply-requires-clause-place c =
    (berth_here _ _ _ _ c.in-Some-berth-2.berth.now c.requires.ready.sound c.requires.ready.shape
    (sym c.in-Some-berth-2.ensures)).place

pub returns-in-Pull : goal.returns-in-Pull
returns-in-Pull c = rw c.in-Pull.is (c.pull_reply.ensures _)

pub returns-in-Pass : goal.returns-in-Pass
returns-in-Pass c = rw c.in-Pass.is (c.pass_lever_reply.ensures _)

pub returns-in-Overrun : goal.returns-in-Overrun
returns-in-Overrun c = rw c.in-Overrun.is (c.overrun_lever_reply.ensures _)

-- what is answered to a look for a train doesn't hang on the box
awaited_alike : (o : Option ℕ) (here there : BoxState) (j : ℕ) (line : List Passage)
    → (train_awaited o here j line).reply ≡ (train_awaited o there j line).reply
awaited_alike None here there j line = refl
awaited_alike (Some train) here there j line = refl

pub returns-in-AwaitTrain : goal.returns-in-AwaitTrain
returns-in-AwaitTrain c =
    let here : BoxState = c.args.here.now in
    let line : List Passage = of_way c.args.pair.now.lines c.in-AwaitTrain.way in
    rw c.in-AwaitTrain.is
    (awaited_alike (next_train here c.in-AwaitTrain.way line) (at_moment here c.args.call.now.moment) here
    (next_number here c.in-AwaitTrain.way) line
    ∙ ap (λ (told : Told PairState). told.reply) c.look_plain_line.ensures)

pub returns-in-ClearPortion : goal.returns-in-ClearPortion
returns-in-ClearPortion c = rw c.in-ClearPortion.is (c.clear_reply.ensures _)
