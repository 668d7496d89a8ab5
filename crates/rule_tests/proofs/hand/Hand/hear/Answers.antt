use Rattle.std.proofs.Common.{refl, true, subst}
use Rattle.block_words.specs.declared.WordOp.TheVariants as ops
use Rattle.line_plan.specs.Plans.{IsPlan, PlanFields}
use Rattle.instrument_rule.specs.Told.{Tells}
use Rattle.rule_tests.proofs.Hands.{hear_call, hears}
use Rattle.rule_tests.proofs.hand.Hand.hear.Goals as goal

pub returns-clause-knows : goal.returns-clause-knows
returns-clause-knows c =
    let hand = c.args.self.now in
    let v = hand.post.seat.me.0 in
    let w = c.step-met.new.self.seat.me.0 in
    let met = c.step-met.result in
    let same = c.requires.line.1 in
    hears c.args.plan.now (subst IsPlan same c.args.line.now.is_plan) v hand.rung hand.calls c.requires.knows
    hand.box_no
    met c.args.side w c.requires.whose (c.if-not-may.ensures refl).1
    (subst (λ (p : PlanFields). Tells p (hear_call c.args.side) (ops.Hear c.args.side) true v met w) same
    c.step-met.ensures.told)
