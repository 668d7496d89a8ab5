use Rattle.std.proofs.Common.{◌+◌, sym, ap, subst, refl, ◌∙◌}
use Rattle.line_plan.specs.Plans.{IsPlan}
use Rattle.line_law.specs.States.{IsStateOf, LineState}
use Rattle.line_report.specs.Verdicts.{JudgeFields}
use Rattle.line_report.proofs.HeardMore.{asked_on, heard_counts, heard_rest, heard_stays}
use Rattle.line_report.proofs.Turns.{AreAskedFrom, asked_at, asked_first, no_entry}
use Rattle.line_report.proofs.judging.hear_all.Goals as goal

pub loop-entry-init : goal.loop-entry-init
loop-entry-init c = record {
  heard = refl;
  plan = refl;
  count = ap (λ (judge : JudgeFields). judge.count) c.requires.opening;
  line = subst (λ (judge : JudgeFields). IsStateOf judge.plan judge.state) c.judge.view_is
      c.judge.invariant.line.shape;
  asked = λ _.
      subst (λ (s : LineState). AreAskedFrom c.args.judge.now.plan s c.args.entries.now)
      (sym (ap (λ (judge : JudgeFields). judge.state) c.requires.opening))
      (asked_first c.args.judge.now.plan c.args.entries.now c.requires.asked);
}

pub hear-requires-clause-call : goal.hear-requires-clause-call
hear-requires-clause-call c legal =
    asked_at c.loop-entry.judge.plan c.loop-entry.judge.state c.args.entries.now c.loop-entry.entry-index no_entry
    c.loop-entry-test.true (c.loop-entry.invariant.asked legal)

pub loop-entry-preserved : goal.loop-entry-preserved
loop-entry-preserved c = record {
  heard = heard_rest c.loop-entry.judge c.hear.new.self _ c.args.entries.now c.loop-entry.entry-index _
      c.loop-entry-test.true c.hear.ensures.heard c.loop-entry.invariant.heard;
  plan = ap (λ (judge : JudgeFields). judge.plan) c.hear.ensures.heard ∙ heard_stays c.loop-entry.judge _
      ∙ c.loop-entry.invariant.plan;
  count = ap (λ (judge : JudgeFields). judge.count) c.hear.ensures.heard ∙ heard_counts c.loop-entry.judge _
      ∙ ap (λ n. n + 1) c.loop-entry.invariant.count;
  line = c.hear.ensures.line;
  asked = λ legal.
      asked_on c.loop-entry.judge c.hear.new.self c.args.entries.now c.loop-entry.entry-index _
      (subst IsPlan (sym c.loop-entry.invariant.plan)
      (subst IsPlan (ap (λ (judge : JudgeFields). judge.plan) c.judge.view_is) c.meets_conditions.ensures))
      c.loop-entry.invariant.line c.loop-entry-test.true
      c.hear.ensures.heard c.loop-entry.invariant.asked legal;
}
