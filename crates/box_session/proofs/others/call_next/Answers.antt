use Rattle.box_session.proofs.After.{after_one}
use Rattle.box_session.proofs.Rounds.{fewer_left, free_call, free_there, going_next, others_then}
use Rattle.box_session.proofs.others.call_next.Goals as goal

pub take-next-requires-clause-box_no : goal.take-next-requires-clause-box_no
take-next-requires-clause-box_no c =
    free_there c.args.plan.now c.args.work.now.line.line c.args.work.now.roster c.args.box_no c.requires.free

pub take-next-requires-clause-left : goal.take-next-requires-clause-left
take-next-requires-clause-left c =
    free_call c.args.plan.now c.args.work.now.line.line c.args.work.now.roster c.args.box_no c.requires.free

pub returns-clause-going : goal.returns-clause-going
returns-clause-going c =
    going_next c.args.plan.now c.args.work.now.line _ c.args.work.now.roster _ c.args.box_no c.take-next.result.call
    c.perform-reply.result c.requires.going c.take-next.ensures c.perform-reply.ensures.told
    c.perform-reply.ensures.line c.perform-reply.ensures.calls

pub returns-clause-after : goal.returns-clause-after
returns-clause-after c =
    after_one c.args.plan.now c.args.work.now.line _ c.args.work.now.roster _ c.args.box_no c.take-next.result.call
    c.perform-reply.result c.perform-reply.ensures.told c.perform-reply.ensures.calls c.take-next.ensures.left

pub returns-clause-next : goal.returns-clause-next
returns-clause-next c =
    others_then c.args.plan.now c.args.work.now.line.line _ c.args.work.now.roster _ c.args.box_no
    c.take-next.result.call c.perform-reply.result c.requires.free c.take-next.ensures c.perform-reply.ensures.told

pub returns-clause-fewer : goal.returns-clause-fewer
returns-clause-fewer c =
    fewer_left c.args.work.now.roster _ c.args.box_no c.take-next.result.call c.take-next.ensures
