use Rattle.line_plan.specs.Plans.{IsPlan}
use Rattle.line_law.proofs.Keeping.{is_ready}
use Rattle.line_law.proofs.Lines.{box_fits, pair_fits}
use Rattle.line_law.proofs.Sides.{known_box}
use Rattle.line_law.proofs.plain.Plain.answer.Goals as goal

pub answer_here-requires-clause-plan_box : goal.answer_here-requires-clause-plan_box
answer_here-requires-clause-plan_box c = known_box _ _ _ c.requires.call.known

pub answer_here-requires-clause-here : goal.answer_here-requires-clause-here
answer_here-requires-clause-here c = box_fits _ _ _ _ c.requires.line c.requires.call.known

pub answer_here-requires-clause-pair : goal.answer_here-requires-clause-pair
answer_here-requires-clause-pair c =
    let is : IsPlan c.args.plan.now = c.meets_conditions.ensures in
    pair_fits _ _ _ _ is c.requires.line c.requires.call.known

pub answer_here-requires-clause-ready : goal.answer_here-requires-clause-ready
answer_here-requires-clause-ready c =
    let is : IsPlan c.args.plan.now = c.meets_conditions.ensures in
    is_ready _ _ _ _ is c.requires.line c.requires.call.known c.requires.few

pub answer_here-requires-clause-rows : goal.answer_here-requires-clause-rows
answer_here-requires-clause-rows c = (c.requires.line.boxes _ (known_box _ _ _ c.requires.call.known)).rows
