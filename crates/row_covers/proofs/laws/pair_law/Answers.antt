use Rattle.row_covers.proofs.RedundantLemmas.{pair_redundant}
use Rattle.row_covers.proofs.laws.pair_law.Goals as goal

pub returns : goal.returns
returns c = pair_redundant
