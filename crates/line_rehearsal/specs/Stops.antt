-- Boxes that are stopped: what each man waits for, and what he may do there in vain.
use Rattle.std.specs.Prelude.{◌≡◌, ℕ, ◌+◌, List, [], ◌∷◌, Option, Some, None, All, IsTrue, length, if◌then◌else◌}
use Rattle.line_plan.specs.Plans.{PlanFields}
use Rattle.line_law.specs.declared.call.Call.{Call}
use Rattle.line_law.specs.declared.call.Entry.{Entry}
use Rattle.line_law.specs.declared.call.Reply.{Reply}
use Rattle.line_law.specs.History.{state_after}
use Rattle.line_law.specs.Law.{at_moment, step}
use Rattle.line_law.specs.Serial.{calls_left, is_not_yet}
use Rattle.line_law.specs.States.{LineState, box_at}
use Rattle.line_rehearsal.specs.declared.stop.Stop.{Stop}
use Rattle.serial_working.specs.Rosters.{head_of}

-- box b, with these calls left, has made them all or stands at an await that the state doesn't satisfy: the reply there
-- would be BellNotYet, BlockNotYet or TrainNotYet
abbrev pub IsStopped : PlanFields → LineState → ℕ → List Call → Type 0
IsStopped plan state b [] = Unit {0}
IsStopped plan state b (call ∷ calls) = IsTrue (is_not_yet (step plan state b call).reply)

-- every box is stopped, or has made all its calls
abbrev pub AreStopped : PlanFields → LineState → List (List Call) → Type 0
AreStopped plan state left = (b : ℕ) → IsStopped plan state b (calls_left left b)

-- a man at his await, where the reply is that it isn't so yet
abbrev pub stop_with : Call → ℕ → Reply → Option Stop
stop_with call number reply =
    if is_not_yet reply then Some (record { call = call; number = number; reply = reply }) else None

-- what the man of box b waits for, who has made so many calls of his script and has these left
abbrev pub stop_of : PlanFields → LineState → ℕ → ℕ → List Call → Option Stop
stop_of plan state b made [] = None
stop_of plan state b made (call ∷ calls) = stop_with call (made + 1) (step plan state b call).reply

-- ---- what stopped men do

-- each of these entries is of a box that makes its next call
abbrev pub AreNextCalls : List (List Call) → List Entry → Type 0
AreNextCalls left es = All (λ e. head_of (calls_left left e.box_no) ≡ Some e.call) es

-- two states of a line are the same but for the last moments of the boxes: the same bells, instruments and plain lines,
-- and in each box the same levers, arms, trains, counts and commutators
pub record SameButMoments (old new : LineState) : Type 0 where
  pub pairs : new.pairs ≡ old.pairs
  pub count : length new.boxes ≡ length old.boxes
  pub boxes : (b : ℕ) → at_moment (box_at new b) (box_at old b).moment ≡ box_at old b

-- these entries are of awaits in vain: each was answered that it isn't so yet, nothing has changed but last moments,
-- and every box is stopped as before
pub record AreInVain (plan : PlanFields) (state : LineState) (left : List (List Call)) (es : List Entry) : Type 0 where
  pub replies : All (λ e. IsTrue (is_not_yet e.reply)) es
  pub same : SameButMoments state (state_after plan state es)
  pub stopped : AreStopped plan (state_after plan state es) left
