-- Scripts that are worked one call at a time.
use Rattle.std.specs.Prelude.{◌≡◌, ◌+◌, List, ◌∷◌}
use Rattle.line_plan.specs.Plans.{PlanFields}
use Rattle.line_law.specs.declared.call.Call.{Call}
use Rattle.line_law.specs.declared.call.Entry.{Entry}
use Rattle.line_law.specs.States.{LineState}
use Rattle.line_law.specs.Serial.{count_left, serial_from}

-- what the journal still gets, with these calls left
unfoldable pub rest_of : PlanFields → LineState → List (List Call) → List Entry
rest_of plan state left = serial_from plan (count_left left) state left

-- an entry is the next of what the journal still gets, and the rest follows from there
pub record Turns (plan : PlanFields) (old : LineState) (before : List (List Call)) (e : Entry) (new : LineState)
    (after : List (List Call)) : Type 0 where
  pub next : rest_of plan old before ≡ e ∷ rest_of plan new after
  pub fewer : count_left before ≡ count_left after + 1
