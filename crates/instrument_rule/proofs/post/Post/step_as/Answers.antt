use Rattle.std.proofs.Common.{◌≡◌, ℕ, ◌+◌, ◌%◌, ◌^◌, eqb, bit_and, bit_or, Bool, true, false, if◌then◌else◌, ◌⊎◌}
use Rattle.std.proofs.Common.{⊎_elim, refl, ap, ◌∙◌}
use prog.Atomic.{either}
use Rattle.block_words.specs.declared.bells.TheConstants.{COUNT_MASK}
use Rattle.block_words.specs.declared.instruments.TheConstants.{SPENT_BIT}
use Rattle.block_words.specs.Operations.{word_after}
use Rattle.block_words.specs.declared.Way.{Way}
use Rattle.block_words.specs.declared.WordOp.{WordOp}
use Rattle.block_words.specs.declared.WordOp.TheVariants as ops
use Rattle.line_law.specs.declared.call.Call.{Call}
use Rattle.instrument_rule.specs.Posts.{plan_of}
use Rattle.instrument_rule.proofs.Doing.{hands, no_step}
use Rattle.instrument_rule.proofs.post.Post.step_as.Goals as goal

by_either : (t : Bool) (new n : ℕ) → (if t then new else n) ≡ either t new n
by_either true new n = refl
by_either false new n = refl

-- a look changes nothing
abbrev IsLook : WordOp → Type 0
IsLook op = ((x : Way) × (op ≡ ops.LookBell x))
    ⊎ (((x : Way) × (op ≡ ops.LookBlock x)) ⊎ ((x : Way) × (op ≡ ops.LookSection x)))

a_look : (op : WordOp) → IsLook op → (n : ℕ) → word_after op n ≡ n
a_look op is n = ⊎_elim
    (λ (t : (x : Way) × (op ≡ ops.LookBell x)). ap (λ (o : WordOp). word_after o n) t.1)
    (λ (s : ((x : Way) × (op ≡ ops.LookBlock x)) ⊎ ((x : Way) × (op ≡ ops.LookSection x))). ⊎_elim
    (λ (t : (x : Way) × (op ≡ ops.LookBlock x)). ap (λ (o : WordOp). word_after o n) t.1)
    (λ (t : (x : Way) × (op ≡ ops.LookSection x)). ap (λ (o : WordOp). word_after o n) t.1) s) is

pub fetch_add-requires : goal.fetch_add-requires
fetch_add-requires g c =
    let J = g.J.Asking in
    let line = c.args.line.now in
    let id = line.table.shared.table_id in
    let seat = c.args.self.now.seat in
    let h = hands J.plan (plan_of line) id.words id.slots seat.id c.args.box_no seat.me J.call J.op c.args.op
    c.args.call.now.act J.last c.place-word.result (λ n. (n + 1) % 2 ^ 64) no_step
    c.requires.plan line.is_plan c.requires.box_no c.requires.op (ap (λ (x : Call). x.act) c.requires.call)
    c.requires.sits c.requires.may c.requires.fits line.wide c.place-word.ensures
    (λ n. ap (λ (o : WordOp). word_after o n) c.in-Local.is) in
    (c.requires.line, h.0, h.1)

pub compare_exchange-requires : goal.compare_exchange-requires
compare_exchange-requires g c =
    let J = g.J.Asking in
    let line = c.args.line.now in
    let id = line.table.shared.table_id in
    let seat = c.args.self.now.seat in
    let h = hands J.plan (plan_of line) id.words id.slots seat.id c.args.box_no seat.me J.call J.op c.args.op
    c.args.call.now.act J.last c.place-word.result (λ n. either (eqb n c.in-Ring.expect) c.in-Ring.new n) no_step
    c.requires.plan line.is_plan c.requires.box_no c.requires.op (ap (λ (x : Call). x.act) c.requires.call)
    c.requires.sits c.requires.may c.requires.fits line.wide c.place-word.ensures
    (λ n. ap (λ (o : WordOp). word_after o n) c.in-Ring.is ∙ by_either (eqb n c.in-Ring.expect) c.in-Ring.new n) in
    (c.requires.line, h.0, h.1)

pub fetch_and-requires : goal.fetch_and-requires
fetch_and-requires g c =
    let J = g.J.Asking in
    let line = c.args.line.now in
    let id = line.table.shared.table_id in
    let seat = c.args.self.now.seat in
    let h = hands J.plan (plan_of line) id.words id.slots seat.id c.args.box_no seat.me J.call J.op c.args.op
    c.args.call.now.act J.last c.place-word.result (λ n. bit_and n COUNT_MASK) no_step
    c.requires.plan line.is_plan c.requires.box_no c.requires.op (ap (λ (x : Call). x.act) c.requires.call)
    c.requires.sits c.requires.may c.requires.fits line.wide c.place-word.ensures
    (λ n. ap (λ (o : WordOp). word_after o n) c.in-Hear.is) in
    (c.requires.line, h.0, h.1)

pub swap-requires : goal.swap-requires
swap-requires g c =
    let J = g.J.Asking in
    let line = c.args.line.now in
    let id = line.table.shared.table_id in
    let seat = c.args.self.now.seat in
    let h = hands J.plan (plan_of line) id.words id.slots seat.id c.args.box_no seat.me J.call J.op c.args.op
    c.args.call.now.act J.last c.place-word.result (λ _. c.in-Turn.new) no_step
    c.requires.plan line.is_plan c.requires.box_no c.requires.op (ap (λ (x : Call). x.act) c.requires.call)
    c.requires.sits c.requires.may c.requires.fits line.wide c.place-word.ensures
    (λ n. ap (λ (o : WordOp). word_after o n) c.in-Turn.is) in
    (c.requires.line, h.0, h.1)

pub fetch_or-requires : goal.fetch_or-requires
fetch_or-requires g c =
    let J = g.J.Asking in
    let line = c.args.line.now in
    let id = line.table.shared.table_id in
    let seat = c.args.self.now.seat in
    let h = hands J.plan (plan_of line) id.words id.slots seat.id c.args.box_no seat.me J.call J.op c.args.op
    c.args.call.now.act J.last c.place-word.result (λ n. bit_or n SPENT_BIT) no_step
    c.requires.plan line.is_plan c.requires.box_no c.requires.op (ap (λ (x : Call). x.act) c.requires.call)
    c.requires.sits c.requires.may c.requires.fits line.wide c.place-word.ensures
    (λ n. ap (λ (o : WordOp). word_after o n) c.in-Pull.is) in
    (c.requires.line, h.0, h.1)

pub fetch_or-requires-in-Enter : goal.fetch_or-requires-in-Enter
fetch_or-requires-in-Enter g c =
    let J = g.J.Asking in
    let line = c.args.line.now in
    let id = line.table.shared.table_id in
    let seat = c.args.self.now.seat in
    let h = hands J.plan (plan_of line) id.words id.slots seat.id c.args.box_no seat.me J.call J.op c.args.op
    c.args.call.now.act J.last c.place-word.result (λ n. bit_or n c.in-Enter.bits) no_step
    c.requires.plan line.is_plan c.requires.box_no c.requires.op (ap (λ (x : Call). x.act) c.requires.call)
    c.requires.sits c.requires.may c.requires.fits line.wide c.place-word.ensures
    (λ n. ap (λ (o : WordOp). word_after o n) c.in-Enter.is) in
    (c.requires.line, h.0, h.1)

pub fetch_and-requires-in-TakeOut : goal.fetch_and-requires-in-TakeOut
fetch_and-requires-in-TakeOut g c =
    let J = g.J.Asking in
    let line = c.args.line.now in
    let id = line.table.shared.table_id in
    let seat = c.args.self.now.seat in
    let h = hands J.plan (plan_of line) id.words id.slots seat.id c.args.box_no seat.me J.call J.op c.args.op
    c.args.call.now.act J.last c.place-word.result (λ n. bit_and n c.in-TakeOut.mask) no_step
    c.requires.plan line.is_plan c.requires.box_no c.requires.op (ap (λ (x : Call). x.act) c.requires.call)
    c.requires.sits c.requires.may c.requires.fits line.wide c.place-word.ensures
    (λ n. ap (λ (o : WordOp). word_after o n) c.in-TakeOut.is) in
    (c.requires.line, h.0, h.1)

pub load-requires : goal.load-requires
load-requires g c =
    let J = g.J.Asking in
    let line = c.args.line.now in
    let id = line.table.shared.table_id in
    let seat = c.args.self.now.seat in
    let h = hands J.plan (plan_of line) id.words id.slots seat.id c.args.box_no seat.me J.call J.op c.args.op
    c.args.call.now.act J.last c.place-word.result (λ n. n) no_step
    c.requires.plan line.is_plan c.requires.box_no c.requires.op (ap (λ (x : Call). x.act) c.requires.call)
    c.requires.sits c.requires.may c.requires.fits line.wide c.place-word.ensures
    (a_look c.args.op c.in-LookBell.is) in
    (c.requires.line, h.0, h.1)
