use Rattle.plan_text.proofs.Drafted.{plan_of_is_plan}
use Rattle.plan_text.proofs.reading.read_is_a_plan.Goals as goal

pub returns : goal.returns
returns c = plan_of_is_plan
