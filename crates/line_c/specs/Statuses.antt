-- What a call of the library answers.
use Rattle.std.specs.Prelude.{ℕ, Option, Some, None, Result, Ok, Err}
use Rattle.rail_text.specs.declared.cause.Cause.TheVariants as causes
use Rattle.line_law.specs.declared.call.Call.{Call}
use Rattle.line_law.specs.declared.call.Entry.{Entry}
use Rattle.line_requests.specs.declared.fault.Fault.TheVariants as faults
use Rattle.line_service.specs.Services.{ServiceFields}
use Rattle.line_numbers.specs.CallParts.{call_in}
use Rattle.line_numbers.specs.declared.calls.CallNumbers.{CallNumbers}
use Rattle.line_engine.specs.Engines.{EngineFields, entry_asked}
use Rattle.line_engine.specs.declared.call_fault.CallFault.{CallFault}
use Rattle.line_engine.specs.declared.call_fault.CallFault.TheVariants as why
use Rattle.line_c.specs.declared.status.TheConstants.{DONE, FULL, HAS_SCRIPT, MOMENT_FALLS, NO_MEMORY, UNKNOWN}

-- where a call isn't made
abbrev pub status_of_fault : CallFault → ℕ
status_of_fault why.NoMemory = NO_MEMORY
status_of_fault (why.Fault faults.Full) = FULL
status_of_fault (why.Fault faults.HasScript) = HAS_SCRIPT
status_of_fault (why.Fault (faults.Cause causes.MomentFalls)) = MOMENT_FALLS
status_of_fault fault = UNKNOWN

-- where a call is asked for
abbrev pub status_of : Result Entry CallFault → ℕ
status_of (Ok e) = DONE
status_of (Err fault) = status_of_fault fault

-- the entry of the call of these numbers, as its box would make it now
abbrev pub entry_in : ServiceFields → ℕ → Option Call → Result Entry CallFault
entry_in service b None = Err why.NotKnown
entry_in service b (Some call) = entry_asked service b call

-- the same by the numbers
abbrev pub entry_of_numbers : ServiceFields → CallNumbers → Result Entry CallFault
entry_of_numbers service numbers = entry_in service numbers.box_no (call_in numbers)
