use Rattle.box_session.proofs.Kept.{kept_going, kept_idle, kept_made, kept_room, seen_may, seen_room, seen_worked}
use Rattle.box_session.proofs.session.Session.make_here.Goals as goal

pub work_made-requires-clause-going : goal.work_made-requires-clause-going
work_made-requires-clause-going c =
    kept_going _ _ _ _ _ _ _ _ c.meets_conditions.ensures
    (seen_worked _ _ _ _ _ c.args.self.now c.self.view_is c.requires.worked) c.self.invariant

pub work_made-requires-clause-few : goal.work_made-requires-clause-few
work_made-requires-clause-few c =
    kept_room _ _ _ _ _ _ _ _ c.meets_conditions.ensures
    (seen_worked _ _ _ _ _ c.args.self.now c.self.view_is c.requires.worked) c.self.invariant

pub work_made-requires-clause-call : goal.work_made-requires-clause-call
work_made-requires-clause-call c =
    seen_may _ _ _ _ _ _ _ _ c.args.self.now c.args.call.now c.self.view_is c.requires.worked c.self.invariant
    c.requires.call

pub work_made-requires-clause-own : goal.work_made-requires-clause-own
work_made-requires-clause-own c =
    kept_idle _ _ _ _ _ _ _ _ (seen_worked _ _ _ _ _ c.args.self.now c.self.view_is c.requires.worked)
    c.self.invariant

pub invariant_of-self : goal.invariant_of-self
invariant_of-self c =
    kept_made _ _ _ c.self.inside.entries.items _ c.self.inside.made.items _ c.self.inside.is_worked
    c.self.inside.work.line _ c.self.inside.work.roster _ c.args.call.now c.meets_conditions.ensures c.self.invariant
    (seen_worked _ _ _ _ _ c.args.self.now c.self.view_is c.requires.worked)
    (seen_room _ _ _ _ _ c.args.self.now c.self.view_is c.requires.room)
    (seen_may _ _ _ _ _ _ _ _ c.args.self.now c.args.call.now c.self.view_is c.requires.worked c.self.invariant
    c.requires.call) c.in-Ok.ensures.entries c.in-Ok.ensures.made c.in-Ok.ensures.after
