use Rattle.token_law.proofs.Tokens.{one_token_each, one_train_carries}
use Rattle.token_law.proofs.laws.one_token_law.Goals as goal

pub returns-clause-one_train : goal.returns-clause-one_train
returns-clause-one_train c = one_train_carries

pub returns-clause-one_each : goal.returns-clause-one_each
returns-clause-one_each c = one_token_each
