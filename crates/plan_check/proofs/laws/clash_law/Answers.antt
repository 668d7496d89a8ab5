use Rattle.plan_check.proofs.Meeting.{clashes_exactly}
use Rattle.plan_check.proofs.laws.clash_law.Goals as goal

pub returns : goal.returns
returns c = clashes_exactly
