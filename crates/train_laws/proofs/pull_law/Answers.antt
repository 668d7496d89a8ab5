use Rattle.train_laws.proofs.PullTold.{each_pull_told, pull_told}
use Rattle.train_laws.proofs.pull_law.Goals as goal

pub returns-clause-told : goal.returns-clause-told
returns-clause-told c = pull_told

pub returns-clause-each : goal.returns-clause-each
returns-clause-each c = each_pull_told
