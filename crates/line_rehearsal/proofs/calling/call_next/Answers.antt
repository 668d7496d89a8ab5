use Rattle.line_rehearsal.proofs.UnderWay.{goes_on_there, has_call_left, makes_next, way_goes_on}
use Rattle.line_rehearsal.proofs.calling.call_next.Goals as goal

pub take_call-next-requires-clause-box_no : goal.take_call-next-requires-clause-box_no
take_call-next-requires-clause-box_no c =
    goes_on_there c.args.plan.now c.args.scripts.now c.args.made.now c.args.line.now.line c.args.box_no c.requires.free

pub take_call-next-requires-clause-left : goal.take_call-next-requires-clause-left
take_call-next-requires-clause-left c =
    has_call_left c.args.plan.now c.args.scripts.now c.args.made.now c.args.line.now.line c.args.box_no c.requires.free

pub returns-clause-way : goal.returns-clause-way
returns-clause-way c =
    way_goes_on c.args.plan.now c.args.scripts.now c.args.made.now _ c.args.line.now _ c.args.box_no
    c.take_call-next.result.call c.perform-reply.result c.requires.way c.take_call-next.ensures.call
    c.perform-reply.ensures.told c.perform-reply.ensures.line c.perform-reply.ensures.calls
    c.take_call-next.ensures.made

pub returns-clause-made : goal.returns-clause-made
returns-clause-made c =
    makes_next c.args.plan.now _ c.args.made.now _ c.args.line.now.line _ c.args.box_no c.take_call-next.result.call
    c.perform-reply.result c.requires.free c.take_call-next.ensures.call c.perform-reply.ensures.told
    c.take_call-next.ensures.made
