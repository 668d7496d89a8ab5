use Rattle.box_session.proofs.others.may_go.Goals as goal
use Rattle.serial_working.proofs.SerialTurns.{may_look}

pub answer-requires-clause-call : goal.answer-requires-clause-call
answer-requires-clause-call c =
    may_look c.args.plan.now c.args.work.now.line.line _ c.args.box_no c.in-Some.call.now c.requires.going.left
    c.in-Some.ensures
