-- The scripts of a line.
use Rattle.std.specs.Prelude.{◌≡◌, ℕ, ◌<◌, List, length, slice_index_or}
use Rattle.line_plan.specs.Plans.{PlanFields}
use Rattle.script_text.specs.Scripts.{IsScriptOf}
use Rattle.script_text.specs.declared.script.Script.{Script}

-- a script for each box of the line, in order
pub record AreForBoxes (plan : PlanFields) (scripts : List Script) : Type 0 where
  pub each : length scripts ≡ length plan.boxes
  pub own : (b : ℕ) (e : Script) → b < length scripts → IsScriptOf plan b (slice_index_or scripts b e)
