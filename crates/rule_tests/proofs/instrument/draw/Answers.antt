use Rattle.std.proofs.Common.{◌≡◌, ◌<◌, ℕ, length, refl, sym, ap, ◌∙◌, subst}
use Rattle.line_plan.specs.Plans.{PlanFields}
use Rattle.instrument_rule.specs.declared.view.View.{View}
use Rattle.instrument_rule.specs.Views.{caller_of}
use Rattle.rule_tests.specs.Instruments.{Fresh}
use Rattle.rule_tests.proofs.Hands.{same_number}
use Rattle.rule_tests.proofs.Instruments.{drawn}
use Rattle.rule_tests.proofs.instrument.draw.Goals as goal

pub returns-clause-fresh : goal.returns-clause-fresh
returns-clause-fresh c hit =
    let v = c.args.post.now.seat.me.0 in
    let b = c.args.box_no in
    subst (λ (w : View). Fresh c.args.plan.now w × (caller_of w.posts ≡ b))
    (sym (c.take.ensures.drew (same_number c.take.result b hit))) (
      drawn c.args.plan.now v b c.requires.free.0 c.requires.free.1 c.requires.free.2
          (subst (λ (n : ℕ). b < n) (c.len.ensures ∙ ap (λ (p : PlanFields). length p.boxes) c.plan.view_is)
          c.if-box_no-len.false),
      refl,
    )
