use Rattle.std.proofs.Common.{◌≡◌, ℕ, refl}
use Rattle.block_words.specs.Operations.{word_after}
use Rattle.block_words.specs.declared.WordOp.{WordOp}
use Rattle.block_words.specs.declared.WordOp.TheVariants as ops
use Rattle.line_law.specs.declared.call.Act.{Act}
use Rattle.instrument_rule.specs.Calls.{looks_by}
use Rattle.instrument_rule.specs.Posts.{plan_of}
use Rattle.instrument_rule.specs.Views.{caller_of}
use Rattle.instrument_rule.proofs.Doing.{hands, no_step}
use Rattle.instrument_rule.proofs.post.Post.look_as.Goals as goal

-- a look changes nothing
a_look : (act : Act) (op : WordOp) → looks_by act op ≡ 1 → (n : ℕ) → word_after op n ≡ n
a_look act ops.Local one n = absurd cc
a_look act (ops.Ring side expect new) one n = absurd cc
a_look act (ops.Hear side) one n = absurd cc
a_look act (ops.LookBell side) one n = refl
a_look act (ops.Turn way new) one n = absurd cc
a_look act (ops.Pull way) one n = absurd cc
a_look act (ops.LookBlock way) one n = refl
a_look act (ops.LookSection way) one n = refl
a_look act (ops.Enter way bits) one n = absurd cc
a_look act (ops.TakeOut way mask) one n = absurd cc

pub load-requires : goal.load-requires
load-requires g c =
    let J = g.J.Asking in
    let line = c.args.line.now in
    let id = line.table.shared.table_id in
    let seat = c.args.self.now.seat in
    let h = hands J.plan (plan_of line) id.words id.slots seat.id (caller_of seat.me.0.posts) seat.me J.call J.op
    J.op J.call.act J.last c.args.place (λ n. n) no_step
    c.requires.plan line.is_plan refl refl refl c.requires.sits c.requires.may c.requires.fits line.wide
    c.requires.place (a_look J.call.act J.op c.requires.look) in
    (c.requires.line, h.0, h.1)
