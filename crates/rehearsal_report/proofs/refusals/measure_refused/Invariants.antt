use Rattle.std.proofs.Common.{◌≡◌, ◌+◌, ◌≤◌, drop, length}
use Rattle.rehearsal_report.specs.ReportLines.{refused_rows}
use Rattle.rehearsal_report.proofs.refusals.measure_refused.Given as goal

abbrev pub invariant-loop-at : goal.invariant-loop-at
invariant-loop-at l =
    let journal = l.account.rehearsal.now.journal.entries in
    record {
      few : l.many ≤ l.at;
      counted : l.many + length (refused_rows l.account.plan.now l.account.texts.now journal l.at (drop l.at journal))
          ≡ length (refused_rows l.account.plan.now l.account.texts.now journal 0 journal);
    }
