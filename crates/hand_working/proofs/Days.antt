-- The moments of a day.
use Rattle.std.proofs.Common.{ℕ, ◌<◌, Bool, true, false, cond, ◌==◌, List, [], ◌∷◌, ◌++◌, arith}
use Rattle.line_plan.specs.Plans.{PlanFields}
use Rattle.line_law.specs.declared.call.Call.{Call}
use Rattle.line_law.specs.Known.{KnowsCall, moments_of}
use Rattle.line_law.specs.Serial.{AreCalls}
use Rattle.line_law.proofs.Sides.{known_parts}
use Rattle.box_session.specs.Sessions.{last_moment}

begins : (t : Bool) → 0 < cond t 1440 86400
begins true = omega arith
begins false = omega arith

-- a day has a first moment
pub day_begins : (version : ℕ) → 0 < moments_of version
day_begins version = begins (version == 1)

-- the last of calls that a box may make in turn is one that it knows
pub last_known : (plan : PlanFields) (b from : ℕ) (calls : List Call) (call : Call)
    → AreCalls plan b from (calls ++ call ∷ []) → KnowsCall plan b call
last_known plan b from [] call h = h.0
last_known plan b from (first ∷ calls) call h = last_known plan b first.moment calls call h.2

-- it is one of the day
pub last_in_day : (plan : PlanFields) (b from : ℕ) (calls : List Call) → AreCalls plan b from calls
    → last_moment calls < moments_of plan.version
last_in_day plan b from [] h = day_begins plan.version
last_in_day plan b from (call ∷ []) h = (known_parts plan b call h.0).moment
last_in_day plan b from (call ∷ (next ∷ calls)) h = last_in_day plan b call.moment (next ∷ calls) h.2
