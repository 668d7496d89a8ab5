-- Calls that aren't made.
use Rattle.std.proofs.Common.{◌≡◌, ◌≢◌, ℕ, sym, refl, ap}
use Rattle.std.specs.Prelude.{Option, Some, None, Err}
use Rattle.line_law.specs.declared.call.Call.{Call}
use Rattle.line_numbers.specs.CallParts.{call_in}
use Rattle.line_numbers.specs.declared.calls.CallNumbers.{CallNumbers}
use Rattle.line_engine.specs.Engines.{EngineFields}
use Rattle.line_engine.specs.declared.call_fault.CallFault.{CallFault}
use Rattle.line_engine.specs.declared.call_fault.CallFault.TheVariants as why
use Rattle.line_c.specs.Calls.{IsMadeBy, IsMadeOf}
use Rattle.line_c.specs.Statuses.{entry_in, entry_of_numbers, status_of, status_of_fault}
use Rattle.line_c.specs.declared.status.TheConstants.{NO_MEMORY}

kept_by : (old new : EngineFields) (b : ℕ) (call : Option Call) (fault : CallFault)
    → IsMadeBy old b call new (Err fault) → new ≡ old
kept_by old new b None fault h = h.1
kept_by old new b (Some call) why.NoMemory h = h
kept_by old new b (Some call) why.NotKnown h = h.1
kept_by old new b (Some call) (why.Fault fault) h = h.1

why_by : (old new : EngineFields) (b : ℕ) (call : Option Call) (fault : CallFault) → IsMadeBy old b call new (Err fault)
    → status_of_fault fault ≢ NO_MEMORY → status_of_fault fault ≡ status_of (entry_in old.service b call)
why_by old new b None fault h n = ap status_of h.0
why_by old new b (Some call) why.NoMemory h n = absurd (n refl)
why_by old new b (Some call) why.NotKnown h n = sym (ap status_of h.0)
why_by old new b (Some call) (why.Fault fault) h n = sym (ap status_of h.0)

-- nothing is changed
pub unmade_kept : (old new : EngineFields) (numbers : CallNumbers) (fault : CallFault)
    → IsMadeOf old numbers new (Err fault) → new ≡ old
unmade_kept old new numbers fault h = kept_by old new numbers.box_no (call_in numbers) fault h

-- and the status tells why, unless memory ran out
pub unmade_why : (old new : EngineFields) (numbers : CallNumbers) (fault : CallFault)
    → IsMadeOf old numbers new (Err fault) → status_of_fault fault ≢ NO_MEMORY
    → status_of_fault fault ≡ status_of (entry_of_numbers old.service numbers)
unmade_why old new numbers fault h n = why_by old new numbers.box_no (call_in numbers) fault h n
