use Rattle.box_session.proofs.Journals.{session_grows, session_is}
use Rattle.box_session.proofs.laws.session_law.Goals as goal

pub returns-clause-session : goal.returns-clause-session
returns-clause-session c = session_is

pub returns-clause-grows : goal.returns-clause-grows
returns-clause-grows c = session_grows
