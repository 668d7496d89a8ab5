use Rattle.serial_working.proofs.SerialTurns.{box_there, call_there, left_after, turns}
use Rattle.serial_working.proofs.serial.call_next.Goals as goal

pub take-next-requires-clause-box_no : goal.take-next-requires-clause-box_no
take-next-requires-clause-box_no g c =
    box_there c.args.plan.now c.args.plain.now.line c.args.roster.now c.args.box_no c.requires.next

pub take-next-requires-clause-left : goal.take-next-requires-clause-left
take-next-requires-clause-left g c =
    call_there c.args.plan.now c.args.plain.now.line c.args.roster.now c.args.box_no c.requires.next

pub returns-clause-told : goal.returns-clause-told
returns-clause-told g c =
    turns c.args.plan.now c.args.plain.now.line _ c.args.roster.now _ c.args.box_no c.take-next.result.call
    c.perform-reply.result c.requires.next c.take-next.ensures c.perform-reply.ensures.told

pub returns-clause-left : goal.returns-clause-left
returns-clause-left g c =
    left_after c.args.plan.now c.args.plain.now _ c.args.roster.now _ c.args.box_no c.take-next.result.call
    c.perform-reply.result c.requires.line c.requires.left c.take-next.ensures c.perform-reply.ensures.told
