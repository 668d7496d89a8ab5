-- How a box stands whose script is worked.
use Rattle.std.specs.Prelude.{ℕ, List, [], ◌∷◌, if◌then◌else◌}
use Rattle.line_law.specs.declared.call.Call.{Call}
use Rattle.line_plan.specs.Plans.{PlanFields}
use Rattle.line_law.specs.States.{LineState}
use Rattle.line_law.specs.Law.{step}
use Rattle.line_law.specs.Serial.{is_not_yet}
use Rattle.serial_working.specs.declared.look.Look.{Look}
use Rattle.serial_working.specs.declared.look.Look.TheVariants.{Idle, Stopped, Free}

-- box b, with these calls left
abbrev pub look_of : PlanFields → LineState → ℕ → List Call → Look
look_of plan state b [] = Idle
look_of plan state b (call ∷ calls) = if is_not_yet (step plan state b call).reply then Stopped else Free
