use Rattle.lever_frame.proofs.Plans.{arm_by_plan, places_by_plan, pull_by_plan, put_by_plan}
use Rattle.lever_frame.proofs.laws.answer_law.Goals as goal

pub returns : goal.returns
returns c = record { pull = pull_by_plan; put = put_by_plan; arm = arm_by_plan; places = places_by_plan }
