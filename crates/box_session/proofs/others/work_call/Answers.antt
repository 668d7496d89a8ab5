use Rattle.std.proofs.Common.{List, ◌++◌, ap, ◌∙◌}
use Rattle.line_law.specs.declared.call.Entry.{Entry}
use Rattle.box_session.proofs.Rounds.{call_after, call_entries, call_is, going_there}
use Rattle.box_session.proofs.others.work_call.Goals as goal

pub go_on-requires : goal.go_on-requires
go_on-requires c =
    going_there c.args.plan.now c.args.work.now.line _ c.args.work.now.roster c.args.box_no c.args.call.now
    c.perform-reply.result c.requires.going c.requires.few c.requires.own c.perform-reply.ensures.told
    c.perform-reply.ensures.line c.perform-reply.ensures.calls

pub returns-clause-entries : goal.returns-clause-entries
returns-clause-entries c =
    call_entries _ _ _ _ _ c.in_ok-push.ensures.items c.in_ok-go_on.ensures.entries
    ∙ ap (λ (xs : List Entry). c.args.entries.now.items ++ xs)
    (call_is c.args.plan.now c.args.work.now.line.line _ c.args.work.now.roster c.args.box_no c.args.call.now
    c.perform-reply.result c.perform-reply.ensures.told)

pub returns-clause-after : goal.returns-clause-after
returns-clause-after c =
    call_after c.args.plan.now c.args.work.now.line _ _ c.args.work.now.roster _ c.args.box_no c.args.call.now
    c.perform-reply.result c.in_ok-go_on.ensures.after c.perform-reply.ensures.told c.perform-reply.ensures.calls
    c.requires.own
