use Rattle.std.proofs.Common.{ap, arith, sym}
use Rattle.box_session.proofs.Rounds.{fewer_left, free_call, free_there}
use Rattle.serial_working.specs.Rosters.{head_of}
use Rattle.line_service.proofs.Going.{goes_next, worked_few, worked_line, worked_may, worked_script}
use Rattle.line_service.proofs.others.call_next.Goals as goal

pub take-call-requires-clause-box_no : goal.take-call-requires-clause-box_no
take-call-requires-clause-box_no c = free_there _ _ _ _ c.requires.free

pub take-call-requires-clause-left : goal.take-call-requires-clause-left
take-call-requires-clause-left c = free_call _ _ _ _ c.requires.free

pub perform-reply-requires-clause-line : goal.perform-reply-requires-clause-line
perform-reply-requires-clause-line c = worked_line _ _ _ _ c.meets_conditions.ensures c.requires.worked

pub perform-reply-requires-clause-call : goal.perform-reply-requires-clause-call
perform-reply-requires-clause-call c =
    worked_may _ _ _ _ _ _ c.requires.worked (sym (ap head_of c.take-call.ensures.taken))

pub perform-reply-requires-clause-few : goal.perform-reply-requires-clause-few
perform-reply-requires-clause-few c = worked_few _ _ _ _ c.requires.worked

pub push_reserved-requires : goal.push_reserved-requires
push_reserved-requires c =
    omega (arith, c.requires.room, fewer_left _ _ _ _ c.take-call.ensures)

pub returns-clause-worked : goal.returns-clause-worked
returns-clause-worked c =
    worked_script _ _ _ _ _ _ _ _ _ _ c.meets_conditions.ensures c.requires.worked c.take-call.ensures
    c.perform-reply.ensures.told c.perform-reply.ensures.calls c.push_reserved.ensures.items

pub returns-clause-goes : goal.returns-clause-goes
returns-clause-goes c =
    goes_next _ _ _ _ _ c.args.work.now.line c.perform-reply.new.self _ _ _ c.requires.worked c.take-call.ensures
    c.perform-reply.ensures.told c.requires.free c.push_reserved.ensures.items

pub returns-clause-room : goal.returns-clause-room
returns-clause-room c =
    omega (
      arith,
      c.requires.room,
      fewer_left _ _ _ _ c.take-call.ensures,
      c.push_reserved.ensures.len,
      c.push_reserved.ensures.capacity,
    )

pub returns-clause-fewer : goal.returns-clause-fewer
returns-clause-fewer c = fewer_left _ _ _ _ c.take-call.ensures
