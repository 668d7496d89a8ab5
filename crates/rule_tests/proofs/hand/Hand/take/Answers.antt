use Rattle.std.proofs.Common.{◌<◌, ℕ, length, sym, ap, ◌∙◌, subst}
use Rattle.line_plan.specs.Plans.{PlanFields}
use Rattle.instrument_rule.specs.declared.view.View.{View}
use Rattle.rule_tests.specs.Hands.{Knows}
use Rattle.rule_tests.proofs.Hands.{fresh}
use Rattle.rule_tests.proofs.hand.Hand.take.Goals as goal

pub returns-clause-knows : goal.returns-clause-knows
returns-clause-knows c =
    let v = c.args.post.seat.me.0 in
    let b = c.args.box_no in
    subst (λ (w : View). Knows c.args.plan.now w 0 0) (sym (c.take-found.ensures.drew c.if-found-box_no.false))
    (fresh c.args.plan.now v b c.requires.free.0 c.requires.free.1 c.requires.free.2
    (subst (λ (n : ℕ). b < n) (c.len.ensures ∙ ap (λ (p : PlanFields). length p.boxes) c.plan.view_is)
    c.if-box_no-len.false))
