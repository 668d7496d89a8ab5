use Rattle.std.proofs.Common.{arith}
use Rattle.rehearsal_report.proofs.Accounts.{scripts_there}
use Rattle.rehearsal_report.proofs.standings.box_row.Goals as goal
use Rattle.serial_working.proofs.SerialTurns.{boxes_few}

pub overflow_cast-box_no : goal.overflow_cast-box_no
overflow_cast-box_no c =
    let few = boxes_few c.args.account.now.plan.now c.meets_conditions.ensures in
    let many =
    scripts_there c.args.account.now.plan.now c.args.account.now.scripts.now c.args.account.now.texts.now
    c.args.account.now.rehearsal.now c.requires.account in
    omega (arith, few, many, c.requires.box_no)
