use Rattle.std.proofs.Common.{◌∙◌}
use Rattle.rehearsal_report.proofs.Ready.{account_made, entries_small}
use Rattle.rehearsal_report.proofs.report.put_report.Goals as goal
use Rattle.serial_working.proofs.SerialTurns.{calls_few}

pub number_calls-requires : goal.number_calls-requires
number_calls-requires c =
    let account =
    account_made c.args.plan.now c.args.scripts.now c.args.texts.now c.deref.result.now c.args.rehearsal.now
    c.meets_conditions.ensures c.requires.scripts c.requires.way c.requires.state c.requires.legal c.requires.begins
    c.requires.each (c.deref.ensures.value ∙ c.in_ok-numbered.ensures) in
    entries_small c.args.plan.now c.args.rehearsal.now.journal.entries _ _ account.spelled c.as_slice-entries.ensures
    c.requires.scripts.each

pub put_lines-requires-clause-account : goal.put_lines-requires-clause-account
put_lines-requires-clause-account c =
    account_made c.args.plan.now c.args.scripts.now c.args.texts.now c.deref.result.now c.args.rehearsal.now
    c.meets_conditions.ensures c.requires.scripts c.requires.way c.requires.state c.requires.legal c.requires.begins
    c.requires.each (c.deref.ensures.value ∙ c.in_ok-numbered.ensures)

pub put_lines-requires-clause-few : goal.put_lines-requires-clause-few
put_lines-requires-clause-few c =
    calls_few c.args.plan.now c.args.scripts.now c.meets_conditions.ensures c.requires.scripts
