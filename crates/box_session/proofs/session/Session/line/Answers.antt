use Rattle.box_session.proofs.Kept.{seen_few, seen_line}
use Rattle.box_session.proofs.session.Session.line.Goals as goal

pub returns-clause-line : goal.returns-clause-line
returns-clause-line c =
    seen_line _ _ _ _ _ _ _ _ c.args.self.now c.self.view_is c.requires c.meets_conditions.ensures c.self.invariant

pub returns-clause-few : goal.returns-clause-few
returns-clause-few c =
    seen_few _ _ _ _ _ _ _ _ c.args.self.now c.self.view_is c.requires c.meets_conditions.ensures c.self.invariant
