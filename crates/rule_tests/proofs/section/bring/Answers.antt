use Rattle.std.proofs.Common.{ℕ, ◌+◌, ◌*◌, sym, ◌∙◌, refl, subst, true}
use Rattle.block_words.specs.declared.WordOp.TheVariants as ops
use Rattle.line_plan.specs.Plans.{IsPlan, PlanFields}
use Rattle.line_law.specs.Known.{KnowsCall}
use Rattle.instrument_rule.specs.Told.{Tells}
use Rattle.rule_tests.proofs.Sections.{bring_call, brings, fits_bring}
use Rattle.rule_tests.proofs.section.bring.Goals as goal

pub step-requires-clause-op : goal.step-requires-clause-op
step-requires-clause-op c = fits_bring c.args.line.now.table.shared.key c.args.post.now.seat.me.0 (c.args.sent + 1)

pub returns-clause-standing : goal.returns-clause-standing
returns-clause-standing c =
    let plan = c.args.plan.now in
    let v = c.args.post.now.seat.me.0 in
    let s = c.args.sent in
    let same = c.requires.line.1 in
    brings plan (subst IsPlan same c.args.line.now.is_plan) v c.args.place s (2 * s) c.step.result
    c.step.new.self.seat.me.0
    c.requires.waiting (c.if-not-is_brought_at.ensures refl)
    (subst (λ (b : ℕ). KnowsCall plan b (bring_call (s + 1))) (sym c.requires.whose)
    (sym c.knows.ensures ∙ c.if-not-knows.false))
    (subst (λ (p : PlanFields). Tells p (bring_call (s + 1)) ops.Local true v c.step.result c.step.new.self.seat.me.0)
    same
    c.step.ensures.told)
