use Rattle.std.proofs.Common.{ℕ, refl, sym, ap, ◌∙◌, subst, true}
use Rattle.block_words.specs.declared.Position.TheVariants.{LineClear}
use Rattle.block_words.specs.declared.Way.TheVariants.{Down}
use Rattle.block_words.specs.declared.WordOp.TheVariants as ops
use Rattle.line_plan.specs.Plans.{IsPlan, PlanFields}
use Rattle.line_law.specs.Known.{KnowsCall}
use Rattle.instrument_rule.specs.Calls.{OpFits}
use Rattle.instrument_rule.specs.Told.{Tells}
use Rattle.instrument_rule.specs.Views.{caller_of}
use Rattle.rule_tests.specs.Instruments.{IsAbsolute}
use Rattle.rule_tests.proofs.Instruments.{fits_clear, gives, turn_call}
use Rattle.rule_tests.proofs.instrument.give_line_clear.Goals as goal

pub step-requires-clause-op : goal.step-requires-clause-op
step-requires-clause-op c =
    let plan = c.args.plan.now in
    let v = c.args.post.now.seat.me.0 in
    let same = c.requires.line.1 in
    let new = c.block_word-new.result in
    subst (λ (p : PlanFields). OpFits p (caller_of v.posts) (turn_call LineClear) (ops.Turn Down new) v) (sym same)
    (fits_clear plan (subst IsPlan same c.args.line.now.is_plan) v c.requires.fresh.0
    (subst (IsAbsolute plan) (sym c.requires.fresh.1) (c.if-not-is_absolute.ensures refl)) new
    c.block_word-new.ensures.word)

pub returns-clause-given : goal.returns-clause-given
returns-clause-given c =
    let plan = c.args.plan.now in
    let v = c.args.post.now.seat.me.0 in
    let w = c.step.new.self.seat.me.0 in
    let met = c.step.result in
    let same = c.requires.line.1 in
    let new = c.block_word-new.result in
    let whose = c.requires.fresh.1 in (
      gives plan (subst IsPlan same c.args.line.now.is_plan) v c.requires.fresh.0
          (subst (IsAbsolute plan) (sym whose) (c.if-not-is_absolute.ensures refl)) met new w
          (subst (λ (b : ℕ). KnowsCall plan b (turn_call LineClear)) (sym whose)
          (sym c.knows.ensures ∙ c.if-not-knows.false))
          (subst (λ (p : PlanFields). Tells p (turn_call LineClear) (ops.Turn Down new) true v met w) same
          c.step.ensures.told),
      ap caller_of c.step.ensures.posts ∙ whose,
    )
