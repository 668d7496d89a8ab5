use Rattle.plan_text.proofs.ReadBack.{few_boxes_back, no_longer, spelled_back, upgrade_back}
use Rattle.plan_text.proofs.SpelledPlans.{printed_is_read}
use Rattle.plan_text.proofs.spelling.printed_is_read.Goals as goal

pub returns-clause-short : goal.returns-clause-short
returns-clause-short c = printed_is_read

pub returns-clause-no_longer : goal.returns-clause-no_longer
returns-clause-no_longer c = no_longer

pub returns-clause-spelled : goal.returns-clause-spelled
returns-clause-spelled c = spelled_back

pub returns-clause-few_boxes : goal.returns-clause-few_boxes
returns-clause-few_boxes c = few_boxes_back

pub returns-clause-upgraded : goal.returns-clause-upgraded
returns-clause-upgraded c = upgrade_back
