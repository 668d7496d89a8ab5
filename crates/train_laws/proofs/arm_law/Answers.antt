use Rattle.train_laws.proofs.ArmsPassed.{at_danger, passed_again, put_back_first, stays_at_danger}
use Rattle.train_laws.proofs.arm_law.Goals as goal

pub returns : goal.returns
returns c = record { danger = at_danger; pulled = stays_at_danger; again = put_back_first; passed = passed_again }
