-- The order on one thread.
use Rattle.std.specs.Prelude.{◌≡◌, ◌≤◌, ℕ, ◌+◌, zero, suc, Bool, true, false, List, [], ◌∷◌, Option, Some, None, length}
use Rattle.std.specs.Prelude.{sum_by, slice_index_or, slice_set, if◌then◌else◌}
use Rattle.line_plan.specs.Plans.{PlanFields}
use Rattle.line_law.specs.declared.call.Call.{Call}
use Rattle.line_law.specs.declared.call.Entry.{Entry}
use Rattle.line_law.specs.declared.call.Reply.{Reply}
use Rattle.line_law.specs.declared.call.Reply.TheVariants.{BellNotYet, BlockNotYet, TrainNotYet}
use Rattle.line_law.specs.Known.{KnowsCall}
use Rattle.line_law.specs.Law.{step}
use Rattle.line_law.specs.States.{LineState, opening_state, box_at}

-- the reply of an await that the state doesn't satisfy
abbrev pub is_not_yet : Reply → Bool
is_not_yet (BellNotYet shown k) = true
is_not_yet (BlockNotYet shown v) = true
is_not_yet (TrainNotYet j) = true
is_not_yet reply = false

-- the calls that box b has left
abbrev pub calls_left : List (List Call) → ℕ → List Call
calls_left left b = slice_index_or left b []

-- box b has a call left, and isn't stopped: its next call is no await that the state doesn't satisfy
abbrev pub may_go : PlanFields → LineState → ℕ → List Call → Bool
may_go plan state b [] = false
may_go plan state b (call ∷ calls) = if is_not_yet (step plan state b call).reply then false else true

-- the lowest box, of those from b on with these calls left, that has a call left and isn't stopped
abbrev pub first_free : PlanFields → LineState → ℕ → List (List Call) → Option ℕ
first_free plan state b [] = None
first_free plan state b (calls ∷ left) =
    if may_go plan state b calls then Some b else first_free plan state (b + 1) left

-- the lowest box, of those from b on, that has a call left
abbrev pub first_waiting : ℕ → List (List Call) → Option ℕ
first_waiting b [] = None
first_waiting b ([] ∷ left) = first_waiting (b + 1) left
first_waiting b ((call ∷ calls) ∷ left) = Some b

-- the first box of two choices
abbrev pub or_else : Option ℕ → Option ℕ → Option ℕ
or_else (Some b) other = Some b
or_else None other = other

-- the box that calls next: the lowest that isn't stopped, or where all with a call left are stopped the lowest of them
abbrev pub next_box : PlanFields → LineState → List (List Call) → Option ℕ
next_box plan state left = or_else (first_free plan state 0 left) (first_waiting 0 left)

-- the next call of box b, if it has one, and then the rest
abbrev pub call_next : PlanFields → (LineState → List (List Call) → List Entry) → LineState → List (List Call) → ℕ
    → List Call → List Entry
call_next plan rest state left b [] = []
call_next plan rest state left b (call ∷ calls) =
    record { box_no = b; call = call; reply = (step plan state b call).reply }
    ∷ rest (step plan state b call).after (slice_set left b calls)

-- the next call of the box that is chosen, and then the rest
abbrev pub go_on : PlanFields → (LineState → List (List Call) → List Entry) → LineState → List (List Call) → Option ℕ
    → List Entry
go_on plan rest state left None = []
go_on plan rest state left (Some b) = call_next plan rest state left b (calls_left left b)

-- the first n calls from a state on, with these calls left
unfoldable pub serial_from : PlanFields → ℕ → LineState → List (List Call) → List Entry
serial_from plan zero state left = []
serial_from plan (suc n) state left =
    go_on plan (λ after rest. serial_from plan n after rest) state left (next_box plan state left)

-- how many calls are left
abbrev pub count_left : List (List Call) → ℕ
count_left left = sum_by (λ calls. length calls) left

-- the journal of these calls of each box, made one at a time
unfoldable pub serial_journal : PlanFields → List (List Call) → List Entry
serial_journal plan scripts = serial_from plan (count_left scripts) (opening_state plan) scripts

-- ---- scripts that the line can work

-- calls that box b may make in turn from a moment on: the plan knows each, and the moments don't fall
abbrev pub AreCalls : PlanFields → ℕ → ℕ → List Call → Type 0
AreCalls plan b moment [] = Unit {0}
AreCalls plan b moment (call ∷ calls) =
    KnowsCall plan b call × (moment ≤ call.moment) × AreCalls plan b call.moment calls

-- the calls that each box of a line has left are calls that it may make in turn
pub record AreLeft (plan : PlanFields) (state : LineState) (left : List (List Call)) : Type 0 where
  pub each : length left ≡ length plan.boxes
  pub calls : (b : ℕ) → AreCalls plan b (box_at state b).moment (calls_left left b)

-- scripts of a line: one for each box, of calls that it may make in turn from the start of the day
pub record AreScripts (plan : PlanFields) (scripts : List (List Call)) : Type 0 where
  pub each : length scripts ≡ length plan.boxes
  pub calls : (b : ℕ) → AreCalls plan b 0 (calls_left scripts b)
