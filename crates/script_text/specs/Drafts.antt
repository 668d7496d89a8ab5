-- The script as far as its text is read.
use Rattle.std.specs.Prelude.{◌≡◌, ◌<◌, ℕ, List, [], length}
use Rattle.line_plan.specs.Plans.{PlanFields}
use Rattle.line_law.specs.declared.call.Call.{Call}
use Rattle.script_text.specs.declared.draft.Stage.{Stage}
use Rattle.script_text.specs.declared.draft.Stage.TheVariants as stages

-- the plan and the box for which it is read, which line may come next, the moment of the last call, and the calls so
-- far
pub record DraftFields : Type 0 where
  pub plan : PlanFields
  pub box_no : ℕ
  pub stage : Stage
  pub moment : ℕ
  pub calls : List Call

-- nothing is read yet: no moment of a day is below the first
abbrev pub start : PlanFields → ℕ → DraftFields
start plan b = record { plan = plan; box_no = b; stage = stages.Script; moment = 0; calls = [] }

-- the box for which the script is read is one of the plan's
pub record IsDraft (draft : DraftFields) : Type 0 where
  pub box : draft.box_no < length draft.plan.boxes

-- want of memory comes only among the calls, and leaves what was read as it was
abbrev pub IsLeft : DraftFields → DraftFields → Type 0
IsLeft old new = (old.stage ≡ stages.Calls) × (new ≡ old)
