use Rattle.line_rehearsal.proofs.Stuck.{again, in_vain}
use Rattle.line_rehearsal.proofs.laws.stuck_law.Goals as goal

pub returns-clause-in_vain : goal.returns-clause-in_vain
returns-clause-in_vain c = in_vain

pub returns-clause-again : goal.returns-clause-again
returns-clause-again c = again
