use Rattle.std.proofs.Common.{refl, sym, subst, ℕ}
use Rattle.block_words.specs.declared.Way.TheVariants.{Down}
use Rattle.block_words.specs.declared.WordOp.TheVariants as ops
use Rattle.line_plan.specs.Plans.{PlanFields}
use Rattle.instrument_rule.specs.Calls.{OpFits}
use Rattle.instrument_rule.specs.Views.{caller_of}
use Rattle.rule_tests.specs.Instruments.{IsFreeStarter}
use Rattle.rule_tests.proofs.Instruments.{fits_pull, pull_call}
use Rattle.rule_tests.proofs.instrument.pull_starter.Goals as goal

pub step-requires-clause-op : goal.step-requires-clause-op
step-requires-clause-op c =
    let plan = c.args.plan.now in
    let v = c.args.post.now.seat.me.0 in
    let lever = c.args.lever in
    subst (λ (p : PlanFields). OpFits p (caller_of v.posts) (pull_call lever) (ops.Pull Down) v) (sym c.requires.line.1)
    (fits_pull plan v lever c.requires.fresh.0
    (subst (λ (b : ℕ). IsFreeStarter plan b lever) (sym c.requires.fresh.1) (c.if-not-is_free_starter.ensures refl)))
