use Rattle.std.proofs.Common.{arith}
use Rattle.rehearsal_report.proofs.standings.stopped_row.Goals as goal
use Rattle.serial_working.proofs.SerialTurns.{boxes_few}

pub overflow_cast-entry : goal.overflow_cast-entry
overflow_cast-entry c =
    let few = boxes_few c.args.account.now.plan.now c.meets_conditions.ensures in
    omega (arith, few, c.requires.known.box)
