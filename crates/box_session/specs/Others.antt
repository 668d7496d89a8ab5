-- What the boxes of a line do by their scripts while nobody else calls.
use Rattle.std.specs.Prelude.{ℕ, zero, suc, List, [], ◌∷◌}
use Rattle.line_plan.specs.Plans.{PlanFields}
use Rattle.line_law.specs.declared.call.Call.{Call}
use Rattle.line_law.specs.declared.call.Entry.{Entry}
use Rattle.line_law.specs.History.{entry_of}
use Rattle.line_law.specs.Law.{step}
use Rattle.line_law.specs.Serial.{count_left, first_free, go_on}
use Rattle.line_law.specs.States.{LineState}

-- From a state on, with these calls left, the first n entries of the boxes that go on: at each point the lowest box
-- makes its next call that has one left and isn't stopped at an await that the line doesn't satisfy. Where there is no
-- such box, no more is done.
unfoldable pub going_on : PlanFields → ℕ → LineState → List (List Call) → List Entry
going_on plan zero state left = []
going_on plan (suc n) state left =
    go_on plan (λ after rest. going_on plan n after rest) state left (first_free plan state 0 left)

-- all that they do, up to where no box may go on
unfoldable pub others_from : PlanFields → LineState → List (List Call) → List Entry
others_from plan state left = going_on plan (count_left left) state left

-- the man of box b makes a call, and then they go on, with these calls left
unfoldable pub call_from : PlanFields → LineState → List (List Call) → ℕ → Call → List Entry
call_from plan state left b call = entry_of plan state b call ∷ others_from plan (step plan state b call).after left
