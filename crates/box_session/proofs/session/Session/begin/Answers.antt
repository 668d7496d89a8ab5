use Rattle.box_session.proofs.Kept.{kept_begins, opened_goes_on}
use Rattle.box_session.proofs.session.Session.begin.Goals as goal

pub go_on-requires : goal.go_on-requires
go_on-requires c =
    opened_goes_on c.args.plan.now c.args.scripts.now c.args.box_no _ _ c.meets_conditions.ensures c.requires.scripts
    c.requires.own c.in_ok-work.ensures.worked

pub invariant_of-result : goal.invariant_of-result
invariant_of-result c =
    kept_begins c.args.plan.now c.args.box_no c.args.scripts.now _ _ _ _ _ _ _ c.requires.scripts c.requires.box_no
    c.requires.own c.in_ok-work.ensures.worked c.new-entries.ensures.items c.new-made.ensures.items
    c.in-Ok.ensures.entries c.in-Ok.ensures.after
