use Rattle.serial_working.proofs.SerialTurns.{may_look}
use Rattle.serial_working.proofs.serial.look_at.Goals as goal

pub answer-requires-clause-call : goal.answer-requires-clause-call
answer-requires-clause-call c =
    may_look c.args.plan.now c.args.plain.now.line c.args.roster.now c.args.box_no c.in-Some.call.now c.requires.left
    c.in-Some.ensures
