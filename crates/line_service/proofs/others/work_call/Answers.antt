use Rattle.line_service.proofs.Going.{worked_call, worked_line}
use Rattle.line_service.proofs.others.work_call.Goals as goal

pub perform-requires-clause-line : goal.perform-requires-clause-line
perform-requires-clause-line c = worked_line _ _ _ _ c.meets_conditions.ensures c.requires.worked

pub go_on-requires-clause-worked : goal.go_on-requires-clause-worked
go_on-requires-clause-worked c =
    worked_call c.args.plan.now c.args.entries.now.items _ c.args.work.now.roster c.args.work.now.line
    c.perform.new.self c.args.entry.now c.perform.result c.requires.worked c.requires.may c.perform.ensures.told
    c.perform.ensures.calls c.push_reserved.ensures.items
