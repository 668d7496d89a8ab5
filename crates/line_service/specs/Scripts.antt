-- What comes of a script that is given.
use Rattle.std.specs.Prelude.{ℕ, ◌+◌, ◌-◌, ◌<◌, ◌^◌, zero, suc, Bool, true, false, List, [], ◌∷◌, length, nat_lt}
use Rattle.std.specs.Prelude.{Result, Ok, Err, not, slice_set, if◌then◌else◌}
use Rattle.rail_text.specs.Gives.{◌>>=◌, Fault as TextFault}
use Rattle.rail_text.specs.declared.cause.Cause.{Cause}
use Rattle.rail_text.specs.declared.cause.Cause.TheVariants as causes
use Rattle.rail_text.specs.declared.cause.ReadError.{ReadError}
use Rattle.rail_text.specs.declared.cause.ReadError.TheVariants as errors
use Rattle.line_plan.specs.Plans.{PlanFields}
use Rattle.line_law.specs.declared.call.Call.{Call}
use Rattle.line_law.specs.Serial.{AreCalls}
use Rattle.line_law.specs.States.{box_at}
use Rattle.script_text.specs.declared.script.Script.{Script}
use Rattle.script_text.specs.Scripts.{script_of}
use Rattle.line_requests.specs.declared.fault.Fault.{Fault}
use Rattle.line_requests.specs.declared.fault.Fault.TheVariants as faults
use Rattle.line_service.specs.Services.{ServiceFields, count_in_all, line_of}
use Rattle.line_service.specs.declared.service.TheConstants.{MOST_ENTRIES}

-- ---- the script that a text spells

-- a text is refused since it is another box's
abbrev pub is_of_other : Cause → Bool
is_of_other causes.WrongBox = true
is_of_other cause = false

-- what was read counts: the text isn't refused since it is another box's
abbrev pub read_counts : Result Script ReadError → Bool
read_counts (Ok script) = true
read_counts (Err (errors.Refused line cause)) = not (is_of_other cause)
read_counts (Err errors.NoMemory) = true

-- what was read, or where the text is another box's, what else was read
abbrev pub read_or : Result Script TextFault → Result Script TextFault → Result Script TextFault
read_or (Ok script) other = Ok script
read_or (Err fault) other = if is_of_other fault.cause then other else Err fault

-- what is read for the first of box b and the n behind it of which the text isn't another's
abbrev pub script_among : PlanFields → ℕ → ℕ → List ℕ → Result Script TextFault
script_among plan zero b bytes = script_of plan b bytes
script_among plan (suc n) b bytes = read_or (script_of plan b bytes) (script_among plan n (b + 1) bytes)

-- the script that a text spells, of the box that it names
unfoldable pub script_in : PlanFields → List ℕ → Result Script TextFault
script_in plan bytes = script_among plan (length plan.boxes - 1) 0 bytes

-- ---- the script that is given

-- a script, or the line and the cause for which it isn't one
abbrev pub script_or : Result Script TextFault → Result Script Fault
script_or (Ok script) = Ok script
script_or (Err fault) = Err (faults.Script fault.line fault.cause)

-- the service where a box is given a script, in the place of what is left of an earlier one
abbrev pub with_script : ServiceFields → Script → ServiceFields
with_script service script = record service { left = slice_set service.left script.box_no script.calls }

-- the first of these calls, if there is one, comes before a moment
abbrev pub begins_before : ℕ → List Call → Bool
begins_before moment [] = false
begins_before moment (call ∷ calls) = nat_lt call.moment moment

-- a script that a box may work by: it is one of the line, the calls are such as it may make in turn, and there is room
-- for all their entries
pub record MayWork (service : ServiceFields) (script : Script) : Type 0 where
  pub at : script.box_no < length service.plan.boxes
  pub calls : AreCalls service.plan script.box_no (box_at (line_of service) script.box_no).moment script.calls
  pub room : count_in_all (with_script service script) < 2 ^ 32

-- a script, where there is room for its entries and its first call isn't before the box's last
unfoldable pub script_allowed : ServiceFields → Script → Result Script Fault
script_allowed service script =
    if nat_lt MOST_ENTRIES (count_in_all (with_script service script)) then Err faults.Full
    else if begins_before (box_at (line_of service) script.box_no).moment script.calls
    then Err (faults.Cause causes.MomentFalls)
    else Ok script

-- the script that a text spells, where its box may work by it
unfoldable pub script_given : ServiceFields → List ℕ → Result Script Fault
script_given service bytes = script_or (script_in service.plan bytes) >>= (λ script. script_allowed service script)
