use Rattle.plan_text.proofs.Drafted.{read_is_plan}
use Rattle.plan_text.proofs.reading.plan_in.Goals as goal

pub into_plan-requires-clause-plan : goal.into_plan-requires-clause-plan
into_plan-requires-clause-plan c = read_is_plan c.args.bytes.now c.in-Ok.draft c.in-Ok.ensures.reads
