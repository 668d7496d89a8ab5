-- An engine that a program of another language holds, and what comes of its calls.
use Rattle.std.specs.Prelude.{◌≡◌, ℕ, List, [], Result, Ok, Err, if◌then◌else◌}
use Rattle.rail_text.specs.Gives.{FailsText}
use Rattle.rail_text.specs.declared.cause.ReadError.{ReadError}
use Rattle.line_plan.specs.Plans.{PlanFields}
use Rattle.line_law.specs.declared.call.Call.{Call}
use Rattle.line_law.specs.declared.call.Entry.{Entry}
use Rattle.line_law.specs.declared.call.Reply.{Reply}
use Rattle.line_law.specs.Known.{knows_call}
use Rattle.line_report.specs.Hearings.{text_judged}
use Rattle.line_requests.specs.declared.fault.Fault.{Fault}
use Rattle.line_service.specs.Answers.{after_made}
use Rattle.line_service.specs.Calls.{entry_made}
use Rattle.line_service.specs.Services.{ServiceFields, opening}
use Rattle.line_engine.specs.declared.call_fault.CallFault.{CallFault}
use Rattle.line_engine.specs.declared.call_fault.CallFault.TheVariants as faults

-- what an engine is to its callers: the service that holds the line, and the text that its last call had to tell
pub record EngineFields : Type 0 where
  pub service : ServiceFields
  pub text : List ℕ

-- an engine as its line opens: no call is made, and nothing told
abbrev pub opened : PlanFields → EngineFields
opened plan = record { service = opening plan; text = [] }

-- ---- a call

-- a fault of a service, as an engine has it
abbrev pub fault_or : Result Entry Fault → Result Entry CallFault
fault_or (Ok e) = Ok e
fault_or (Err fault) = Err (faults.Fault fault)

-- the entry of a call as a box would make it now, where the plan knows it
unfoldable pub entry_asked : ServiceFields → ℕ → Call → Result Entry CallFault
entry_asked service b call =
    if knows_call service.plan b call then fault_or (entry_made service b call) else Err faults.NotKnown

-- the reply of such an entry
abbrev pub reply_asked : Result Entry CallFault → Result Reply CallFault
reply_asked (Ok e) = Ok e.reply
reply_asked (Err fault) = Err fault

-- the engine with an entry made
abbrev pub with_made : EngineFields → Entry → EngineFields
with_made engine e = record engine { service = after_made engine.service (Ok e) }

-- what comes of a call: its entry is made, and it is the one that is asked for; or nothing changes, for the fault that
-- stands in its way or for want of memory
abbrev pub IsMade : EngineFields → ℕ → Call → EngineFields → Result Entry CallFault → Type 0
IsMade old b call new (Ok e) = (entry_asked old.service b call ≡ Ok e) × (new ≡ with_made old e)
IsMade old b call new (Err faults.NoMemory) = new ≡ old
IsMade old b call new (Err fault) = (entry_asked old.service b call ≡ Err fault) × (new ≡ old)

-- ---- a journal

-- what comes of judging a text: what is found is the text to tell; or the text is refused for its first fault, or
-- memory runs out, and nothing changes
abbrev pub IsJudged : EngineFields → List ℕ → EngineFields → Result (Unit {0}) ReadError → Type 0
IsJudged old text new (Ok done) =
    (text_judged old.service.plan text ≡ Ok new.text) × (new ≡ record old { text = new.text })
IsJudged old text new (Err error) = FailsText error (text_judged old.service.plan text) × (new ≡ old)
