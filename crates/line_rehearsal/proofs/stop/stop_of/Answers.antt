use Rattle.std.proofs.Common.{arith}
use Rattle.line_rehearsal.proofs.UnderWay.{few_made}
use Rattle.line_rehearsal.proofs.stop.stop_of.Goals as goal
use Rattle.serial_working.proofs.SerialTurns.{may_look}

pub answer-reply-requires-clause-call : goal.answer-reply-requires-clause-call
answer-reply-requires-clause-call c =
    may_look c.args.plan.now c.args.line.now.line _ c.args.box_no c.in-Some.call.now c.requires.way.left
    c.in-Some.ensures

pub overflow_cast-result : goal.overflow_cast-result
overflow_cast-result c =
    let few =
    few_made c.args.plan.now c.args.scripts.now c.args.made.now c.args.line.now c.args.box_no c.in-Some.call.now
    c.requires.way c.requires.box_no c.in-Some.ensures in
    omega (arith, few)

pub overflow_add-result : goal.overflow_add-result
overflow_add-result c =
    let few =
    few_made c.args.plan.now c.args.scripts.now c.args.made.now c.args.line.now c.args.box_no c.in-Some.call.now
    c.requires.way c.requires.box_no c.in-Some.ensures in
    omega (arith, few)
