use Rattle.std.proofs.Common.{List, sym, subst, string_bytes, ◌∙◌}
use Rattle.rehearsal_report.specs.Reports.{Reports, Told}
use Rattle.rehearsal_report.proofs.Accounts.{entry_there}
use Rattle.rehearsal_report.proofs.RefusedLines.{passed_by, refused_here, reports_here}
use Rattle.rehearsal_report.proofs.refusals.put_refused_rows.Goals as goal
use Rattle.rehearsal_report.proofs.refusals.put_refused_rows.Goals.{else-is_refused}
use Rattle.rehearsal_report.proofs.refusals.put_refused_rows.Goals.{then-is_refused+in_ok-put_refused_row}

pub put_refused_row-requires-clause-box_no : goal.put_refused_row-requires-clause-box_no
put_refused_row-requires-clause-box_no c =
    entry_there c.args.account.now.plan.now c.args.account.now.scripts.now c.args.account.now.texts.now
    c.args.account.now.rehearsal.now c.as_slice-entries.result.now c.loop-at.at _ c.requires.account
    c.as_slice-entries.ensures c.loop-at-test.true

pub loop-at-preserved : goal.loop-at-preserved
loop-at-preserved c new more =
    let plan = c.args.account.now.plan.now in
    let texts = c.args.account.now.texts.now in
    let journal = c.args.account.now.rehearsal.now.journal.entries in
    let es = c.as_slice-entries.result.now in
    elim c.if-is_refused.branch [
      | then-is_refused+in_ok-put_refused_row w ↦
          c.loop-at.invariant new
          (reports_here _ _ _ _ _ new
          (refused_here plan texts journal es c.loop-at.at _ c.args.numbers.now c.as_slice-entries.ensures
          c.loop-at-test.true c.requires.numbers (sym c.is_refused.ensures ∙ w.if-is_refused.true))
          w.in_ok-put_refused_row.ensures (rw w.out-is at more))
      | else-is_refused w ↦
          c.loop-at.invariant new
          (subst (λ (xs : List Told). Reports xs (string_bytes c.loop-at.out) new)
          (sym (passed_by plan texts journal es c.loop-at.at _ c.as_slice-entries.ensures c.loop-at-test.true
          (sym c.is_refused.ensures ∙ w.if-is_refused.false))) (rw w.out-is at more))
    ]
