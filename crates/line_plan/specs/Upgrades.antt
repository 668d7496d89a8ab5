-- The upgrade of a plan from minutes to seconds.
use Rattle.std.specs.Prelude.{◌*◌, ◌==◌, if◌then◌else◌}
use Rattle.line_plan.specs.Plans.{PlanFields}

-- the plan of version 2 with the same winding in seconds
abbrev pub plan_in_seconds : PlanFields → PlanFields
plan_in_seconds plan = record plan { version = 2; delay = plan.delay * 60 }

-- the upgrade of a plan: one of version 1 gets version 2 and its winding in seconds, one of version 2 stays as it is
abbrev pub upgraded : PlanFields → PlanFields
upgraded plan = if plan.version == 1 then plan_in_seconds plan else plan
