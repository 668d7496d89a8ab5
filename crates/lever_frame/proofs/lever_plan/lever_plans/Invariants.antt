use Rattle.lever_frame.specs.LeverPlans.{AreLeverPlans}
use Rattle.lever_frame.proofs.lever_plan.lever_plans.Given as goal

abbrev pub invariant-loop-before : goal.invariant-loop-before
invariant-loop-before l = AreLeverPlans l.plan l.before l.plans.items
