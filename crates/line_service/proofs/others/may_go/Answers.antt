use Rattle.line_service.proofs.Going.{worked_few, worked_line, worked_may}
use Rattle.line_service.proofs.others.may_go.Goals as goal

pub answer-requires-clause-line : goal.answer-requires-clause-line
answer-requires-clause-line c = worked_line _ _ _ _ c.meets_conditions.ensures c.requires.worked

pub answer-requires-clause-call : goal.answer-requires-clause-call
answer-requires-clause-call c = worked_may _ _ _ _ _ _ c.requires.worked c.in-Some.ensures

pub answer-requires-clause-few : goal.answer-requires-clause-few
answer-requires-clause-few c = worked_few _ _ _ _ c.requires.worked
