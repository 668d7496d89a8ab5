use Rattle.std.proofs.Common.{ℕ, sym, ◌∙◌, refl, subst, true}
use Rattle.block_words.specs.declared.Way.TheVariants.{Down}
use Rattle.block_words.specs.declared.WordOp.TheVariants as ops
use Rattle.line_plan.specs.Plans.{IsPlan, PlanFields}
use Rattle.line_law.specs.Known.{KnowsCall}
use Rattle.instrument_rule.specs.Told.{Tells}
use Rattle.rule_tests.specs.Instruments.{IsAbsolute}
use Rattle.rule_tests.proofs.Sections.{berth_call, berths}
use Rattle.rule_tests.proofs.section.take_in.Goals as goal

pub returns-clause-knows : goal.returns-clause-knows
returns-clause-knows c =
    let plan = c.args.plan.now in
    let v = c.args.post.now.seat.me.0 in
    let w = c.step.new.self.seat.me.0 in
    let same = c.requires.line.1 in
    let mask = c.lane_mask-mask.result in
    berths plan (subst IsPlan same c.args.line.now.is_plan) v c.requires.fresh
    (subst (IsAbsolute plan) (sym c.requires.whose) (c.if-not-is_absolute.ensures refl)) mask c.step.result w
    (subst (λ (b : ℕ). KnowsCall plan b berth_call) (sym c.requires.whose) (sym c.knows.ensures ∙ c.if-not-knows.false))
    (subst (λ (p : PlanFields). Tells p berth_call (ops.TakeOut Down mask) true v c.step.result w) same
    c.step.ensures.told)
