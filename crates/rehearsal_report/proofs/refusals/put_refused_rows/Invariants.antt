use Rattle.std.proofs.Common.{ℕ, List, drop, string_bytes}
use Rattle.rehearsal_report.specs.ReportLines.{refused_rows}
use Rattle.rehearsal_report.specs.Reports.{Reports}
use Rattle.rehearsal_report.proofs.refusals.put_refused_rows.Given as goal

abbrev pub invariant-loop-at : goal.invariant-loop-at
invariant-loop-at l =
    let journal = l.account.rehearsal.now.journal.entries in
    (new : List ℕ)
    → Reports (refused_rows l.account.plan.now l.account.texts.now journal l.at (drop l.at journal))
    (string_bytes l.out) new
    → Reports (refused_rows l.account.plan.now l.account.texts.now journal 0 journal) (string_bytes l.fn.out) new
