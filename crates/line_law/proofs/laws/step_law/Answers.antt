use Rattle.line_law.proofs.Left.{moment_here, other_box, step_is}
use Rattle.line_law.proofs.laws.step_law.Goals as goal

pub returns-clause-decided : goal.returns-clause-decided
returns-clause-decided c = step_is

pub returns-clause-moment : goal.returns-clause-moment
returns-clause-moment c = moment_here

pub returns-clause-others : goal.returns-clause-others
returns-clause-others c = other_box
