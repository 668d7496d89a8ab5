use Rattle.std.proofs.Common.{ℕ, ◌<◌, ◌^◌, ◌≡◌, ◌⊎◌, inl, inr, Option, Some, subst, sym, arith}
use Rattle.block_words.specs.declared.WordOp.{WordOp}
use Rattle.line_plan.specs.declared.signal.Signal.{Signal}
use Rattle.line_plan.specs.Frames.{BoxFields, signal_of}
use Rattle.line_law.specs.declared.call.Act.{Act}
use Rattle.line_law.specs.declared.call.Act.TheVariants.{Pass, Overrun}
use Rattle.line_law.specs.declared.state.BoxState.{BoxState}
use Rattle.line_law.specs.Levers.{starter_way}
use Rattle.word_laws.specs.Operations.{enter_op, second_by, train_at_signal}
use Rattle.box_desk.specs.declared.incoming.IncomingLine.{IncomingLine}
use Rattle.box_desk.specs.Boxes.{here_of}
use Rattle.box_desk.proofs.Counts.{few_taken, few_turns}
use Rattle.box_desk.proofs.equipment.Equipment.ops.Goals as goal

pub overflow_add-get : goal.overflow_add-get
overflow_add-get c =
    let few : c.get.result.turns < 2 ^ 32 = subst (λ (line : IncomingLine). line.turns < 2 ^ 32) (sym c.get.ensures)
    (few_turns c.args.self.now c.in-Turn.way c.requires.few) in
    omega (arith, few)

pub block_word-new-requires : goal.block_word-new-requires
block_word-new-requires c =
    let few : c.get.result.turns < 2 ^ 32 = subst (λ (line : IncomingLine). line.turns < 2 ^ 32) (sym c.get.ensures)
    (few_turns c.args.self.now c.in-Turn.way c.requires.few) in
    omega (arith, few)

pub next_number-requires : goal.next_number-requires
next_number-requires c = few_taken c.args.self.now c.in-Berth.way c.requires.few

-- a train that is let pass or overrun enters by its signal
enters : (box_plan : BoxFields) (act : Act) (lever : ℕ) (signal : Signal) (here : BoxState) (op : Option WordOp)
    → (act ≡ Pass lever) ⊎ (act ≡ Overrun lever) → signal_of box_plan lever ≡ Some signal
    → op ≡ enter_op here (train_at_signal here (Some signal)) (starter_way (Some signal))
    → op ≡ second_by box_plan act here
enters box_plan act lever signal here op (inl pass) found is = rw (pass, found) is
enters box_plan act lever signal here op (inr overrun) found is = rw (overrun, found) is

pub returns-in-Some-clause-second : goal.returns-in-Some-clause-second
returns-in-Some-clause-second c =
    enters c.args.plan.now c.args.act c.in-Pass.lever c.in-Some.signal.now (here_of c.args.self.now) c.move_ops.result.1
    c.in-Pass.is (sym (c.in-Some.ensures {u = tt})) c.move_ops.ensures.second
