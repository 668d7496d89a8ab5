use Rattle.std.proofs.Common.{◌≡◌, ◌+◌, ℕ, Bool, true, false, not, ◌&&◌, if◌then◌else◌, refl, sym, ap, ◌∙◌, subst}
use Rattle.std.specs.Prelude.{◌==◌}
use Rattle.block_words.specs.Bells.{bell_code}
use Rattle.block_words.specs.declared.WordOp.TheVariants as ops
use Rattle.line_plan.specs.Plans.{IsPlan, PlanFields}
use Rattle.instrument_rule.specs.Told.{Tells}
use Rattle.instrument_rule.proofs.Parts.{eqb_no, eqb_yes}
use Rattle.rule_tests.specs.Hands.{Knows}
use Rattle.rule_tests.proofs.Hands.{await_call, looks}
use Rattle.rule_tests.proofs.hand.Hand.look.Goals as goal
use Rattle.rule_tests.proofs.hand.Hand.look.Goals.{else-last-via-then-last+else-bell_code-code, else-last-via-else-last}

-- the calls after a look, by what was asked and what was shown
abbrev after : Bool → Bool → ℕ → ℕ
after last same n = if last && not same then n + 1 else n

shown : (last : Bool) (met code n : ℕ) → last ≡ true → met ≡ code → after last (met == code) n ≡ n
shown last met code n is_last same =
    let e = eqb_yes met code same in
    λ i. after (is_last i) (e i) n

pub returns-then-bell_code-code-clause-knows : goal.returns-then-bell_code-code-clause-knows
returns-then-bell_code-code-clause-knows c =
    let hand = c.args.self.now in
    let v = hand.post.seat.me.0 in
    let w = c.step-met.new.self.seat.me.0 in
    let met = c.step-met.result in
    let same = c.requires.line.1 in
    let differ : (bell_code met == c.args.code) ≡ false =
    eqb_no (bell_code met) c.args.code (λ e. c.if-bell_code-code.true (c.bell_code.ensures.unheard ∙ e)) in
    let counts : after c.args.last (bell_code met == c.args.code) hand.calls ≡ hand.calls + 1 =
    (λ i. after (c.if-last.true i) (differ i) hand.calls) in
    subst (λ (n : ℕ). Knows c.args.plan.now w hand.rung n) counts
    (looks c.args.plan.now (subst IsPlan same c.args.line.now.is_plan) v hand.rung hand.calls c.requires.knows
    c.args.last hand.box_no c.args.code met c.args.side w c.requires.whose (c.if-not-may.ensures refl).1
    (subst (λ (p : PlanFields). Tells p (await_call c.args.side c.args.code) (ops.LookBell c.args.side) c.args.last v
    met w)
    same c.step-met.ensures.told))

pub returns-else-last-clause-knows : goal.returns-else-last-clause-knows
returns-else-last-clause-knows c =
    let hand = c.args.self.now in
    let v = hand.post.seat.me.0 in
    let w = c.step-met.new.self.seat.me.0 in
    let met = c.step-met.result in
    let same = c.requires.line.1 in
    let counts : after c.args.last (bell_code met == c.args.code) hand.calls ≡ hand.calls =
    elim c.else-last.branch [
      | else-last-via-then-last+else-bell_code-code w ↦
          shown c.args.last (bell_code met) c.args.code hand.calls w.if-last.true
          (sym w.bell_code.ensures.unheard ∙ w.if-bell_code-code.false)
      | else-last-via-else-last w ↦ ap (λ (t : Bool). after t (bell_code met == c.args.code) hand.calls) w.if-last.false
    ] in
    subst (λ (n : ℕ). Knows c.args.plan.now w hand.rung n) counts
    (looks c.args.plan.now (subst IsPlan same c.args.line.now.is_plan) v hand.rung hand.calls c.requires.knows
    c.args.last hand.box_no c.args.code met c.args.side w c.requires.whose (c.if-not-may.ensures refl).1
    (subst (λ (p : PlanFields). Tells p (await_call c.args.side c.args.code) (ops.LookBell c.args.side) c.args.last v
    met w)
    same c.step-met.ensures.told))
