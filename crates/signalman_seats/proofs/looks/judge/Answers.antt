use Rattle.instrument_rule.specs.Posts.{plan_of, view_of}
use Rattle.instrument_rule.specs.Views.{caller_of}
use Rattle.signalman_seats.proofs.Looking.{desk_meets, due}
use Rattle.signalman_seats.proofs.Judging.{by_first_alone, by_last, by_second, unmet}
use Rattle.signalman_seats.proofs.looks.judge.Goals as goal

pub met-requires-clause-asked : goal.met-requires-clause-asked
met-requires-clause-asked c = let v = c.requires.shown.0 in let h = c.requires.shown.1 in (
  (plan_of c.args.line.now),
  caller_of v.posts,
  h.asks.asked,
  desk_meets (plan_of c.args.line.now) v c.args.desk.now c.args.ask.now c.args.last c.args.shown
      (view_of c.args.post.now) c.args.line.now.is_plan h.may.holds h.asks h.told,
)

pub step-requires-clause-may : goal.step-requires-clause-may
step-requires-clause-may c = let v = c.requires.shown.0 in let h = c.requires.shown.1 in
    (due (plan_of c.args.line.now) v c.args.desk.now c.args.ask.now c.args.last c.args.shown
    (view_of c.args.post.now) c.args.line.now.is_plan h.sits h.may h.asks h.told c.met.result c.met.ensures.met
    c.in-Some.second c.if-met.true c.in-Some.is).may_then

pub step-requires-clause-op : goal.step-requires-clause-op
step-requires-clause-op c = let v = c.requires.shown.0 in let h = c.requires.shown.1 in
    (due (plan_of c.args.line.now) v c.args.desk.now c.args.ask.now c.args.last c.args.shown
    (view_of c.args.post.now) c.args.line.now.is_plan h.sits h.may h.asks h.told c.met.result c.met.ensures.met
    c.in-Some.second c.if-met.true c.in-Some.is).fits

pub returns-in-Some-clause-came : goal.returns-in-Some-clause-came
returns-in-Some-clause-came c = λ v h. by_second (plan_of c.args.line.now) c.args.desk.now c.args.ask.now
    c.args.last v c.args.shown (view_of c.args.post.now) c.args.line.now.is_plan h c.met.result c.met.ensures.met
    c.in-Some.second c.step.result (view_of c.step.new.self) c.if-met.true c.in-Some.is c.step.ensures.told

pub returns-in-None-clause-came : goal.returns-in-None-clause-came
returns-in-None-clause-came c = λ v h. by_first_alone (plan_of c.args.line.now) c.args.desk.now c.args.ask.now
    c.args.last v c.args.shown (view_of c.args.post.now) c.args.line.now.is_plan h c.met.result c.met.ensures.met
    c.if-met.true c.in-None.is

pub returns-then-last-clause-came : goal.returns-then-last-clause-came
returns-then-last-clause-came c = λ v h. by_last (plan_of c.args.line.now) c.args.desk.now c.args.ask.now
    c.args.last v c.args.shown (view_of c.args.post.now) c.args.line.now.is_plan h c.met.result c.met.ensures.met
    c.if-met.false c.if-last.true

pub returns-else-last-clause-came : goal.returns-else-last-clause-came
returns-else-last-clause-came c = λ v h. unmet (plan_of c.args.line.now) c.args.desk.now c.args.ask.now
    c.args.last v c.args.shown (view_of c.args.post.now) c.args.line.now.is_plan h c.met.result c.met.ensures.met
    c.if-met.false c.if-last.false
