-- What comes of a call that is asked for.
use Rattle.std.specs.Prelude.{◌≡◌, ℕ, ◌+◌, ◌<◌, ◌^◌, ◌∷◌, ◌++◌, false, List, [], nat_le, nat_lt, if◌then◌else◌}
use Rattle.std.specs.Prelude.{Option, Some, None, Result, Ok, Err, position, bytes_eq}
use Rattle.rail_text.specs.Gives.{◌>>=◌}
use Rattle.rail_text.specs.declared.cause.Cause.{Cause}
use Rattle.rail_text.specs.declared.cause.Cause.TheVariants as causes
use Rattle.line_plan.specs.Plans.{PlanFields, names_of}
use Rattle.line_law.specs.declared.call.Call.{Call}
use Rattle.line_law.specs.declared.call.Entry.{Entry}
use Rattle.line_law.specs.History.{entry_of}
use Rattle.line_law.specs.Law.{MayCall}
use Rattle.line_law.specs.States.{box_at}
use Rattle.script_text.specs.Calls.{call_of}
use Rattle.line_requests.specs.declared.fault.Fault.{Fault}
use Rattle.line_requests.specs.declared.fault.Fault.TheVariants as faults
use Rattle.line_service.specs.Services.{ServiceFields, count_in_all, has_script, line_of}
use Rattle.line_service.specs.declared.service.TheConstants.{MOST_ENTRIES}

-- a number, or no box of that name
abbrev pub box_or : Option ℕ → Result ℕ Fault
box_or None = Err faults.UnknownBox
box_or (Some b) = Ok b

-- the box of that name
unfoldable pub box_named : PlanFields → List ℕ → Result ℕ Fault
box_named plan name = box_or (position (bytes_eq name) (names_of plan.boxes))

-- a call, or the cause for which it isn't one
abbrev pub call_or : Result Call Cause → Result Call Fault
call_or (Ok call) = Ok call
call_or (Err cause) = Err (faults.Cause cause)

-- the call of a box that a line of its script spells
unfoldable pub call_in : PlanFields → ℕ → List ℕ → Result Call Fault
call_in plan b line = call_or (call_of plan b line)

-- The entry of a call of box b, where no script works the box, there may be one more and the call's moment isn't below
-- the box's last: its reply is the law's.
unfoldable pub entry_made : ServiceFields → ℕ → Call → Result Entry Fault
entry_made service b call =
    if has_script service b then Err faults.HasScript
    else if nat_le MOST_ENTRIES (count_in_all service) then Err faults.Full
    else if nat_lt call.moment (box_at (line_of service) b).moment then Err (faults.Cause causes.MomentFalls)
    else Ok (entry_of service.plan (line_of service) b call)

-- the entry of a call that a box makes, by the box's name and a line of its script
unfoldable pub entry_on : ServiceFields → List ℕ → List ℕ → Result Entry Fault
entry_on service name line =
    box_named service.plan name >>= (λ b. call_in service.plan b line >>= (λ call. entry_made service b call))

-- the line of a script: the moment, and what is done
abbrev pub call_line : List ℕ → List ℕ → List ℕ
call_line at call = at ++ 32 ∷ call

-- an entry that the law allows behind those that are there, of a box that no script works
pub record MayFollow (service : ServiceFields) (e : Entry) : Type 0 where
  pub call : MayCall service.plan (line_of service) e.box_no e.call
  pub told : e ≡ entry_of service.plan (line_of service) e.box_no e.call
  pub own : has_script service e.box_no ≡ false
  pub room : count_in_all service + 1 < 2 ^ 32

-- the service with an entry more
abbrev pub with_entry : ServiceFields → Entry → ServiceFields
with_entry service e = record service { entries = service.entries ++ e ∷ [] }
