use Rattle.std.proofs.Common.{◌≡◌, ◌++◌, drop}
use Rattle.rehearsal_report.specs.Accounts.{left_in}
use Rattle.rehearsal_report.specs.Standings.{standing_rows}
use Rattle.rehearsal_report.proofs.standings.box_rows.Given as goal

abbrev pub invariant-loop-box_no : goal.invariant-loop-box_no
invariant-loop-box_no l =
    let rehearsal = l.account.rehearsal.now in
    let left = left_in l.account.scripts.now rehearsal in
    l.rows.items ++ standing_rows l.account.plan.now l.account.texts.now rehearsal l.box_no (drop l.box_no left)
    ≡ standing_rows l.account.plan.now l.account.texts.now rehearsal 0 left
