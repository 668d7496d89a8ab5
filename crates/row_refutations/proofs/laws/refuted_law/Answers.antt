use Rattle.row_refutations.proofs.Reached.{never_so}
use Rattle.row_refutations.proofs.laws.refuted_law.Goals as goal

pub returns-clause-never : goal.returns-clause-never
returns-clause-never c = never_so
