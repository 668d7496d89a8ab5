use Rattle.line_plan.specs.Plans.{IsPlan}
use Rattle.line_law.proofs.Keeping.{goes_on, is_ready}
use Rattle.line_law.proofs.Lines.{box_fits, pair_fits}
use Rattle.line_law.proofs.Sides.{known_box}
use Rattle.line_law.proofs.plain.Plain.perform.Goals as goal

pub step-requires-clause-plan_box : goal.step-requires-clause-plan_box
step-requires-clause-plan_box c = known_box _ _ _ c.requires.call.known

pub step-requires-clause-here : goal.step-requires-clause-here
step-requires-clause-here c = box_fits _ _ _ _ c.requires.line c.requires.call.known

pub step-requires-clause-pair : goal.step-requires-clause-pair
step-requires-clause-pair c =
    let is : IsPlan c.args.plan.now = c.meets_conditions.ensures in
    pair_fits _ _ _ _ is c.requires.line c.requires.call.known

pub step-requires-clause-ready : goal.step-requires-clause-ready
step-requires-clause-ready c =
    let is : IsPlan c.args.plan.now = c.meets_conditions.ensures in
    is_ready _ _ _ _ is c.requires.line c.requires.call.known c.requires.few

pub returns-clause-line : goal.returns-clause-line
returns-clause-line c =
    let is : IsPlan c.args.plan.now = c.meets_conditions.ensures in
    goes_on _ _ _ _ _ _ is c.requires.line c.requires.call.known c.step.ensures.told c.step.ensures.calls

pub step-requires-clause-rows : goal.step-requires-clause-rows
step-requires-clause-rows c = (c.requires.line.boxes _ (known_box _ _ _ c.requires.call.known)).rows
