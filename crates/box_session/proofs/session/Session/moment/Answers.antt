use Rattle.box_session.proofs.Kept.{seen_moment}
use Rattle.box_session.proofs.session.Session.moment.Goals as goal

pub returns-in-Some : goal.returns-in-Some
returns-in-Some c =
    seen_moment c.self.inside.plan.now c.self.inside.box_no c.self.inside.scripts.now c.self.inside.made.items _
    c.self.inside.is_worked c.args.self.now _ c.self.view_is c.deref.ensures.value c.in-Some.ensures.value
