use Rattle.box_session.proofs.Kept.{seen_box, seen_calls, seen_plan, seen_session, seen_short}
use Rattle.box_session.proofs.session.Session.meets_conditions.Goals as goal

pub returns-clause-session : goal.returns-clause-session
returns-clause-session c =
    seen_session _ _ _ _ _ _ _ _ c.args.self.now c.self.view_is c.meets_conditions.ensures c.self.invariant

pub returns-clause-calls : goal.returns-clause-calls
returns-clause-calls c = seen_calls _ _ _ _ _ _ _ _ c.args.self.now c.self.view_is c.self.invariant

pub returns-clause-at : goal.returns-clause-at
returns-clause-at c = seen_box _ _ _ _ _ _ _ _ c.args.self.now c.self.view_is c.self.invariant

pub returns-clause-short : goal.returns-clause-short
returns-clause-short c =
    seen_short _ _ _ _ _ _ _ _ c.args.self.now c.self.view_is c.meets_conditions.ensures c.self.invariant

pub returns-clause-plan : goal.returns-clause-plan
returns-clause-plan c = seen_plan _ _ _ _ _ c.args.self.now c.self.view_is c.meets_conditions.ensures
