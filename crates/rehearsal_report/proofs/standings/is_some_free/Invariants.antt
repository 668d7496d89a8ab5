use Rattle.std.proofs.Common.{◌≡◌}
use Rattle.line_rehearsal.proofs.Free.{free_from}
use Rattle.rehearsal_report.specs.Accounts.{left_in}
use Rattle.rehearsal_report.proofs.standings.is_some_free.Given as goal

abbrev pub invariant-loop-box_no : goal.invariant-loop-box_no
invariant-loop-box_no l =
    let rehearsal = l.account.rehearsal.now in
    let left = left_in l.account.scripts.now rehearsal in
    free_from l.account.plan.now rehearsal.line.line left l.box_no
    ≡ free_from l.account.plan.now rehearsal.line.line left 0
