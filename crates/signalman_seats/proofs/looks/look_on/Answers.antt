use Rattle.std.proofs.Common.{◌∙◌, ℕ, false, subst, sym}
use Rattle.signalman_seats.specs.Asking.{IsMissed}
use Rattle.instrument_rule.specs.Posts.{plan_of, view_of}
use Rattle.signalman_seats.proofs.Looking.{differ}
use Rattle.signalman_seats.proofs.Judging.{in_vain_again, one_look, shows_then, then_on}
use Rattle.signalman_seats.proofs.looks.look_on.Goals as goal

pub judge-requires-clause-shown : goal.judge-requires-clause-shown
judge-requires-clause-shown c = (
  (view_of c.loop-taken.post),
  shows_then (plan_of c.args.line.now) c.args.desk.now c.args.ask.now false (view_of c.args.post.now)
      (view_of c.loop-taken.post) (view_of c.look_at-shown.new.self) c.loop-taken.taken c.look_at-shown.result
      c.requires.sits c.requires.may c.requires.ask (λ not. absurd (differ (sym c.requires.awaits ∙ not)))
      c.loop-taken.invariant.waited c.look_at-shown.ensures.told,
)

pub returns-then-shown-unmet-clause-came : goal.returns-then-shown-unmet-clause-came
returns-then-shown-unmet-clause-came c =
    then_on (plan_of c.args.line.now) c.args.ask.now.call (view_of c.args.post.now) (view_of c.loop-taken.post)
    (view_of c.judge.new.post) c.loop-taken.taken 1 c.judge.result c.requires.may.holds c.loop-taken.invariant.waited
    (one_look (plan_of c.args.line.now) c.args.ask.now (view_of c.loop-taken.post) (view_of c.judge.new.post)
    c.judge.result c.requires.awaits (c.judge.ensures.came (view_of c.loop-taken.post)
    (shows_then (plan_of c.args.line.now) c.args.desk.now c.args.ask.now false (view_of c.args.post.now)
    (view_of c.loop-taken.post) (view_of c.look_at-shown.new.self) c.loop-taken.taken c.look_at-shown.result
    c.requires.sits c.requires.may c.requires.ask (λ not. absurd (differ (sym c.requires.awaits ∙ not)))
    c.loop-taken.invariant.waited c.look_at-shown.ensures.told)))

pub loop-taken-preserved : goal.loop-taken-preserved
loop-taken-preserved c = record {
  table = c.look_at-shown.ensures.same ∙ c.loop-taken.invariant.table;
  waited = in_vain_again (plan_of c.args.line.now) c.args.desk.now c.args.ask.now (view_of c.args.post.now)
      (view_of c.loop-taken.post) (view_of c.look_at-shown.new.self) c.loop-taken.taken c.look_at-shown.result
      c.args.line.now.is_plan c.requires.may c.requires.ask c.requires.awaits
      (subst (λ (n : ℕ). IsMissed (plan_of c.args.line.now) c.args.ask.now.call (view_of c.args.post.now) n)
      (sym c.if-shown-unmet.false) c.requires.unmet) c.loop-taken.invariant.waited c.look_at-shown.ensures.told;
}
