use Rattle.serial_working.proofs.SerialTurns.{scripts_few}
use Rattle.box_session.proofs.work.open_work.Goals as goal

pub new-requires : goal.new-requires
new-requires c = scripts_few c.args.plan.now c.args.scripts.now c.requires
