use Rattle.std.proofs.Common.{◌≡◌, ℕ, ◌+◌, ◌*◌, sym, ◌∙◌, subst, true, arith}
use Rattle.block_words.specs.declared.Way.TheVariants.{Down}
use Rattle.block_words.specs.declared.WordOp.TheVariants as ops
use Rattle.line_plan.specs.Plans.{IsPlan, PlanFields}
use Rattle.line_law.specs.Known.{KnowsCall}
use Rattle.instrument_rule.specs.Calls.{MayStep, OpFits}
use Rattle.instrument_rule.specs.Told.{Tells}
use Rattle.instrument_rule.specs.Views.{caller_of}
use Rattle.rule_tests.specs.Sections.{IsStarter, IsWaiting}
use Rattle.rule_tests.proofs.Sections.{fits_then, may_enter, overrun_call, sends}
use Rattle.rule_tests.proofs.section.send.Goals as goal

pub step-met-requires-clause-may : goal.step-met-requires-clause-may
step-met-requires-clause-may c =
    let plan = c.args.plan.now in
    let v = c.args.post.now.seat.me.0 in
    let w = c.step-shown.new.self.seat.me.0 in
    let lever = c.args.lever in
    let s = c.args.sent in
    let same = c.requires.line.1 in
    let whose = c.requires.whose in
    let few = c.requires.few in
    subst (λ (p : PlanFields). MayStep p (overrun_call lever) w) (sym same)
    (may_enter plan (subst IsPlan same c.args.line.now.is_plan) v lever c.args.place s (2 * s + 1)
    (subst (λ (b : ℕ). IsStarter plan b lever c.args.place) (sym whose) c.requires.starter) c.requires.standing
    c.step-shown.result w (sym c.lane.ensures.train ∙ c.if-lane-ne0.false)
    (subst (λ (p : PlanFields). Tells p (overrun_call lever) (ops.LookSection Down) true v c.step-shown.result w) same
    c.step-shown.ensures.told)
    (omega arith)
    (subst (λ (b : ℕ). KnowsCall plan b (overrun_call lever)) (sym whose) (sym c.knows.ensures ∙ c.if-not-knows.false)))

pub step-met-requires-clause-op : goal.step-met-requires-clause-op
step-met-requires-clause-op c =
    let plan = c.args.plan.now in
    let v = c.args.post.now.seat.me.0 in
    let w = c.step-shown.new.self.seat.me.0 in
    let lever = c.args.lever in
    let s = c.args.sent in
    let same = c.requires.line.1 in
    let whose = c.requires.whose in
    let bits = c.lane_bits-bits.result in
    subst (λ (p : PlanFields). OpFits p (caller_of w.posts) (overrun_call lever) (ops.Enter Down bits) w) (sym same)
    (fits_then plan (subst IsPlan same c.args.line.now.is_plan) v lever c.args.place s (2 * s + 1)
    (subst (λ (b : ℕ). IsStarter plan b lever c.args.place) (sym whose) c.requires.starter) c.requires.standing
    c.step-shown.result w (sym c.lane.ensures.train ∙ c.if-lane-ne0.false)
    (subst (λ (p : PlanFields). Tells p (overrun_call lever) (ops.LookSection Down) true v c.step-shown.result w) same
    c.step-shown.ensures.told)
    bits c.lane_bits-bits.ensures.bits)

pub returns-clause-waiting : goal.returns-clause-waiting
returns-clause-waiting c =
    let plan = c.args.plan.now in
    let v = c.args.post.now.seat.me.0 in
    let w = c.step-shown.new.self.seat.me.0 in
    let u = c.step-met.new.self.seat.me.0 in
    let lever = c.args.lever in
    let s = c.args.sent in
    let same = c.requires.line.1 in
    let whose = c.requires.whose in
    let bits = c.lane_bits-bits.result in
    let calls : 2 * s + 1 + 1 ≡ 2 * (s + 1) = omega arith in
    subst (λ (k : ℕ). IsWaiting plan u c.args.place (s + 1) k) calls
    (sends plan (subst IsPlan same c.args.line.now.is_plan) v lever c.args.place s (2 * s + 1)
    (subst (λ (b : ℕ). IsStarter plan b lever c.args.place) (sym whose) c.requires.starter) c.requires.standing
    c.step-shown.result w (sym c.lane.ensures.train ∙ c.if-lane-ne0.false)
    (subst (λ (p : PlanFields). Tells p (overrun_call lever) (ops.LookSection Down) true v c.step-shown.result w) same
    c.step-shown.ensures.told)
    bits c.step-met.result u (sym c.lane-2.ensures.train ∙ c.if-lane-ne0-2.false)
    (subst (λ (b : ℕ). KnowsCall plan b (overrun_call lever)) (sym whose) (sym c.knows.ensures ∙ c.if-not-knows.false))
    (subst (λ (p : PlanFields). Tells p (overrun_call lever) (ops.Enter Down bits) true w c.step-met.result u) same
    c.step-met.ensures.told))
