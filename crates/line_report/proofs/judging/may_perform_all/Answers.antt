use Rattle.std.proofs.Common.{ℕ, ◌+◌, ap, ◌∙◌}
use Rattle.line_plan.specs.Plans.{IsPlan}
use Rattle.line_law.specs.Law.{Done}
use Rattle.line_law.specs.Lines.{PlainState}
use Rattle.line_report.proofs.Turns.{asked_begins, asked_more}
use Rattle.line_report.proofs.judging.may_perform_all.Goals as goal

pub loop-entry-init : goal.loop-entry-init
loop-entry-init c = record {
  line = c.requires.line;
  calls = ap (λ (p : PlainState). p.calls) c.requires.opening;
  asked = asked_begins c.args.plan.now c.args.plain.now.line c.args.entries.now
      (ap (λ (p : PlainState). p.line) c.requires.opening);
}

pub loop-entry-preserved : goal.loop-entry-preserved
loop-entry-preserved c =
    let is : IsPlan c.args.plan.now = c.meets_conditions.ensures in
    record {
      line = c.perform.ensures.line;
      calls = c.perform.ensures.calls ∙ ap (λ (n : ℕ). n + 1) c.loop-entry.invariant.calls;
      asked = asked_more c.args.plan.now c.loop-entry.plain.line c.perform.new.self.line c.args.entries.now
          c.loop-entry.entry-index _ is c.loop-entry.invariant.line.shape c.loop-entry-test.true
          (ap (λ (d : Done). d.after) c.perform.ensures.told) c.perform.ensures.performed.call
          c.loop-entry.invariant.asked;
    }
