use Rattle.hand_working.proofs.Journals.{shown_law, undone_law}
use Rattle.hand_working.proofs.laws.hand_law.Goals as goal

pub returns-clause-shown : goal.returns-clause-shown
returns-clause-shown c = shown_law

pub returns-clause-undone : goal.returns-clause-undone
returns-clause-undone c = undone_law
