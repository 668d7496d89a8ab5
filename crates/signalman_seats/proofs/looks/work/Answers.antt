use Rattle.std.proofs.Common.{◌+◌, ℕ, ap, ◌∙◌, arith}
use Rattle.box_desk.specs.Desks.{DeskFields}
use Rattle.instrument_rule.specs.Posts.{plan_of, view_of}
use Rattle.instrument_rule.specs.Views.{caller_of}
use Rattle.signalman_seats.proofs.Performing.{answered_by_word, answered_here, asks_so, may_ask, same_calls, word_meets}
use Rattle.signalman_seats.proofs.looks.work.Goals as goal

pub decide-word-requires-clause-may : goal.decide-word-requires-clause-may
decide-word-requires-clause-may g c = may_ask (plan_of c.args.line.now) c.args.call.now (view_of c.args.post.now)
    c.args.desk.now c.prepare.new.self
    c.prepare.result c.in-NeedsWord.ask c.args.line.now.is_plan c.requires.may c.requires.desk
    (c.prepare.ensures (plan_of c.args.line.now) (caller_of (view_of c.args.post.now).posts)
    c.requires.desk.desk_of) c.in-NeedsWord.is

pub decide-word-requires-clause-ask : goal.decide-word-requires-clause-ask
decide-word-requires-clause-ask g c = asks_so (plan_of c.args.line.now) c.args.call.now (view_of c.args.post.now)
    c.args.desk.now c.prepare.new.self
    c.prepare.result c.in-NeedsWord.ask c.args.line.now.is_plan c.requires.may c.requires.desk
    (c.prepare.ensures (plan_of c.args.line.now) (caller_of (view_of c.args.post.now).posts)
    c.requires.desk.desk_of) c.in-NeedsWord.is

pub decide-word-requires-clause-few : goal.decide-word-requires-clause-few
decide-word-requires-clause-few g c =
    let same = same_calls (plan_of c.args.line.now) c.args.call.now (view_of c.args.post.now) c.args.desk.now
    c.prepare.new.self
    c.prepare.result c.in-NeedsWord.ask c.args.line.now.is_plan c.requires.may c.requires.desk
    (c.prepare.ensures (plan_of c.args.line.now) (caller_of (view_of c.args.post.now).posts)
    c.requires.desk.desk_of) c.in-NeedsWord.is in let few = c.requires.few in omega arith

pub finish-reply-requires-clause-asked : goal.finish-reply-requires-clause-asked
finish-reply-requires-clause-asked g c = (
  (plan_of c.args.line.now),
  caller_of (view_of c.args.post.now).posts,
  (asks_so (plan_of c.args.line.now) c.args.call.now (view_of c.args.post.now) c.args.desk.now c.prepare.new.self
      c.prepare.result c.in-NeedsWord.ask c.args.line.now.is_plan c.requires.may c.requires.desk
      (c.prepare.ensures (plan_of c.args.line.now) (caller_of (view_of c.args.post.now).posts)
      c.requires.desk.desk_of) c.in-NeedsWord.is).asked,
  word_meets (plan_of c.args.line.now) c.args.call.now (view_of c.args.post.now) c.args.desk.now
      c.prepare.new.self
      c.prepare.result c.in-NeedsWord.ask c.args.line.now.is_plan c.requires.may c.requires.desk
      (c.prepare.ensures (plan_of c.args.line.now) (caller_of (view_of c.args.post.now).posts)
      c.requires.desk.desk_of) c.in-NeedsWord.is
      c.args.looks c.decide-word.result.word (view_of c.decide-word.new.post) c.decide-word.ensures.decided,
)

pub finish-reply-requires-clause-few : goal.finish-reply-requires-clause-few
finish-reply-requires-clause-few g c =
    let same = same_calls (plan_of c.args.line.now) c.args.call.now (view_of c.args.post.now) c.args.desk.now
    c.prepare.new.self
    c.prepare.result c.in-NeedsWord.ask c.args.line.now.is_plan c.requires.may c.requires.desk
    (c.prepare.ensures (plan_of c.args.line.now) (caller_of (view_of c.args.post.now).posts)
    c.requires.desk.desk_of) c.in-NeedsWord.is in let few = c.requires.few in omega arith

pub returns-in-Local-clause-answered : goal.returns-in-Local-clause-answered
returns-in-Local-clause-answered g c =
    answered_here (plan_of c.args.line.now) c.args.call.now c.args.looks (view_of c.args.post.now) c.step.result
    (view_of c.step.new.self) c.args.desk.now c.prepare.new.self c.prepare.result c.in-Local.reply
    c.args.line.now.is_plan c.requires.sits c.requires.may c.requires.desk
    (c.prepare.ensures (plan_of c.args.line.now) (caller_of (view_of c.args.post.now).posts)
    c.requires.desk.desk_of) c.in-Local.is c.step.ensures.told

pub returns-in-NeedsWord-clause-answered : goal.returns-in-NeedsWord-clause-answered
returns-in-NeedsWord-clause-answered g c = answered_by_word (plan_of c.args.line.now) c.args.call.now
    (view_of c.args.post.now) c.args.desk.now c.prepare.new.self
    c.prepare.result c.in-NeedsWord.ask c.args.line.now.is_plan c.requires.may c.requires.desk
    (c.prepare.ensures (plan_of c.args.line.now) (caller_of (view_of c.args.post.now).posts)
    c.requires.desk.desk_of) c.in-NeedsWord.is
    c.args.looks c.decide-word.result.word (view_of c.decide-word.new.post) c.finish-reply.result
    c.finish-reply.new.self
    c.decide-word.ensures.decided
    (c.finish-reply.ensures.told (plan_of c.args.line.now) (caller_of (view_of c.args.post.now).posts)
    (asks_so (plan_of c.args.line.now) c.args.call.now (view_of c.args.post.now) c.args.desk.now
    c.prepare.new.self
    c.prepare.result c.in-NeedsWord.ask c.args.line.now.is_plan c.requires.may c.requires.desk
    (c.prepare.ensures (plan_of c.args.line.now) (caller_of (view_of c.args.post.now).posts)
    c.requires.desk.desk_of) c.in-NeedsWord.is).asked.desk_of) c.finish-reply.ensures.kept

pub returns-in-NeedsWord-clause-calls : goal.returns-in-NeedsWord-clause-calls
returns-in-NeedsWord-clause-calls g c =
    let same = same_calls (plan_of c.args.line.now) c.args.call.now (view_of c.args.post.now) c.args.desk.now
    c.prepare.new.self
    c.prepare.result c.in-NeedsWord.ask c.args.line.now.is_plan c.requires.may c.requires.desk
    (c.prepare.ensures (plan_of c.args.line.now) (caller_of (view_of c.args.post.now).posts)
    c.requires.desk.desk_of) c.in-NeedsWord.is in
    ap (λ (d : DeskFields). d.calls) c.finish-reply.ensures.kept ∙ ap (λ (n : ℕ). n + 1) same
