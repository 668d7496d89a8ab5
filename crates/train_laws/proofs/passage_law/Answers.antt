use Rattle.train_laws.proofs.TrainOrder.{all_numbered, in_order, one_train}
use Rattle.train_laws.proofs.passage_law.Goals as goal

pub returns : goal.returns
returns c = record { order = in_order; numbered = all_numbered; one = one_train }
