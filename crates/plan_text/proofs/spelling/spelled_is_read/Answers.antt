use Rattle.plan_text.proofs.Drafted.{plan_of_is_plan}
use Rattle.plan_text.proofs.SpelledPlans.{spelled_is_read}
use Rattle.plan_text.proofs.SpellLaws.{read_is_spelled}
use Rattle.plan_text.proofs.spelling.spelled_is_read.Goals as goal

pub returns-clause-plan : goal.returns-clause-plan
returns-clause-plan c = plan_of_is_plan

pub returns-clause-spelled : goal.returns-clause-spelled
returns-clause-spelled c = read_is_spelled

pub returns-clause-read : goal.returns-clause-read
returns-clause-read c = spelled_is_read
