use Rattle.std.proofs.Common.{◌+◌, ℕ, refl, sym, subst, true}
use Rattle.block_words.specs.declared.Way.TheVariants.{Down}
use Rattle.block_words.specs.declared.WordOp.TheVariants as ops
use Rattle.line_plan.specs.Plans.{IsPlan, PlanFields}
use Rattle.instrument_rule.specs.Told.{Tells}
use Rattle.rule_tests.specs.Hands.{Knows}
use Rattle.rule_tests.proofs.Hands.{ring_call, rings}
use Rattle.rule_tests.proofs.hand.Hand.ring.Goals as goal

pub returns-clause-knows : goal.returns-clause-knows
returns-clause-knows c =
    let hand = c.args.self.now in
    let v = hand.post.seat.me.0 in
    let w = c.step-met.new.self.seat.me.0 in
    let met = c.step-met.result in
    let same = c.requires.line.1 in
    let silent = c.bell_word-silent.result in
    let rung = c.bell_word-rung.result in
    subst (λ (r : ℕ). Knows c.args.plan.now w r (hand.calls + 1)) (sym c.rung_after-self.ensures)
    (rings c.args.plan.now (subst IsPlan same c.args.line.now.is_plan) v hand.rung hand.calls c.requires.knows
    hand.box_no
    c.args.code silent rung met w c.requires.whose (c.if-not-may.ensures refl).1
    (subst (λ (p : PlanFields). Tells p (ring_call c.args.code) (ops.Ring Down silent rung) true v met w) same
    c.step-met.ensures.told))
