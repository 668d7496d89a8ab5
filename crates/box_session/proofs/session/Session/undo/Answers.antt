use Rattle.box_session.proofs.Kept.{kept_back}
use Rattle.box_session.proofs.session.Session.undo.Goals as goal

pub invariant_of-self-2 : goal.invariant_of-self-2
invariant_of-self-2 c =
    kept_back _ _ _ c.self.inside.entries.items _ c.self.inside.made.items _ c.in-Some.last c.self.inside.is_worked _ _
    c.self.invariant c.in-Some.ensures.items c.truncate.ensures.items
