use Rattle.std.proofs.Common.{rules, ◌≡◌, ◌+◌, List, sym, subst, length, ◌∙◌}
use Rattle.rehearsal_report.specs.ReportLines.{refused_rows}
use Rattle.rehearsal_report.specs.Reports.{Told}
use Rattle.rehearsal_report.proofs.Accounts.{entry_there}
use Rattle.rehearsal_report.proofs.RefusedLines.{counted_here, passed_by, refused_here}
use Rattle.rehearsal_report.proofs.refusals.measure_refused.Goals as goal
use Rattle.rehearsal_report.proofs.refusals.measure_refused.Goals.{else-is_refused}
use Rattle.rehearsal_report.proofs.refusals.measure_refused.Goals.{then-is_refused+in_ok-widths_of}

pub widths_of-requires-clause-box_no : goal.widths_of-requires-clause-box_no
widths_of-requires-clause-box_no c =
    entry_there c.args.account.now.plan.now c.args.account.now.scripts.now c.args.account.now.texts.now
    c.args.account.now.rehearsal.now c.as_slice-entries.result.now c.loop-at.at _ c.requires.account
    c.as_slice-entries.ensures c.loop-at-test.true

pub loop-at-preserved : goal.loop-at-preserved
loop-at-preserved c =
    let plan = c.args.account.now.plan.now in
    let texts = c.args.account.now.texts.now in
    let journal = c.args.account.now.rehearsal.now.journal.entries in
    let es = c.as_slice-entries.result.now in
    elim c.if-is_refused.branch [
      | then-is_refused+in_ok-widths_of w ↦
          record {
            few = search rules;
            counted = rw w.many-is
                (counted_here c.loop-at.many _ _ _ _
                (refused_here plan texts journal es c.loop-at.at _ c.args.numbers.now c.as_slice-entries.ensures
                c.loop-at-test.true c.requires.numbers (sym c.is_refused.ensures ∙ w.if-is_refused.true))
                c.loop-at.invariant.counted);
          }
      | else-is_refused w ↦
          record {
            few = search rules;
            counted = rw w.many-is
                (subst
                (λ (xs : List Told). c.loop-at.many + length xs ≡ length (refused_rows plan texts journal 0 journal))
                (passed_by plan texts journal es c.loop-at.at _ c.as_slice-entries.ensures c.loop-at-test.true
                (sym c.is_refused.ensures ∙ w.if-is_refused.false)) c.loop-at.invariant.counted);
          }
    ]
