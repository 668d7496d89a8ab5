-- Calls in numbers.
use Rattle.std.specs.Prelude.{◌≡◌, ℕ, ◌+◌, ◌-◌, List, Option, Some, None, Result, Ok, Err, length, slice_get}
use Rattle.rail_text.specs.declared.cause.Cause.{Cause}
use Rattle.line_law.specs.declared.call.Call.{Call}
use Rattle.line_law.specs.declared.call.Entry.{Entry}
use Rattle.script_text.specs.Calls.{call_of}
use Rattle.line_numbers.specs.CallParts.{call_in, call_numbers}
use Rattle.line_numbers.specs.CauseNumbers.{cause_number}
use Rattle.line_numbers.specs.ReplyParts.{reply_numbers}
use Rattle.line_numbers.specs.declared.calls.CallNumbers.{CallNumbers}
use Rattle.line_numbers.specs.declared.replies.ReplyNumbers.{ReplyNumbers}
use Rattle.line_engine.specs.Engines.{EngineFields, IsMade, with_made}
use Rattle.line_engine.specs.declared.call_fault.CallFault.{CallFault}
use Rattle.line_engine.specs.declared.call_fault.CallFault.TheVariants as why
use Rattle.line_c.specs.Statuses.{entry_of_numbers}
use Rattle.line_c.specs.declared.calls.EntryNumbers.{EntryNumbers}
use Rattle.line_c.specs.declared.lines.FaultNumbers.{FaultNumbers}

-- an entry in numbers, with its number in the journal
abbrev pub entry_numbers : ℕ → Entry → EntryNumbers
entry_numbers n e =
    record { number = n; call = call_numbers e.box_no e.call; reply = reply_numbers e.reply }

-- the call of these numbers is made, and its entry told
pub record IsPerformed (old : EngineFields) (numbers : CallNumbers) (new : EngineFields) (told : EntryNumbers) : Type 0
  where
    pub entry : Entry
    pub asked : entry_of_numbers old.service numbers ≡ Ok entry
    pub made : new ≡ with_made old entry
    pub is_told : told ≡ entry_numbers (length old.service.entries + 1) entry

-- the reply that such a call would get is told
pub record IsAnsweredBy (engine : EngineFields) (numbers : CallNumbers) (told : ReplyNumbers) : Type 0 where
  pub entry : Entry
  pub asked : entry_of_numbers engine.service numbers ≡ Ok entry
  pub is_told : told ≡ reply_numbers entry.reply

-- what comes of asking for the call of these numbers
abbrev pub IsMadeBy : EngineFields → ℕ → Option Call → EngineFields → Result Entry CallFault → Type 0
IsMadeBy old b None new made = (made ≡ Err why.NotKnown) × (new ≡ old)
IsMadeBy old b (Some call) new made = IsMade old b call new made

abbrev pub IsMadeOf : EngineFields → CallNumbers → EngineFields → Result Entry CallFault → Type 0
IsMadeOf old numbers new made = IsMadeBy old numbers.box_no (call_in numbers) new made

-- the call that a line of a box's script spells is told
pub record IsRead (engine : EngineFields) (b : ℕ) (text : List ℕ) (told : CallNumbers) : Type 0 where
  pub call : Call
  pub read : call_of engine.service.plan b text ≡ Ok call
  pub is_told : told ≡ call_numbers b call

-- the line spells none, for this cause
pub record IsUnread (engine : EngineFields) (b : ℕ) (text : List ℕ) (told : FaultNumbers) : Type 0 where
  pub cause : Cause
  pub read : call_of engine.service.plan b text ≡ Err cause
  pub is_told : told ≡ record { line = 1; cause = cause_number cause }

-- the entry with a number, from 1, is told
pub record IsEntryAt (engine : EngineFields) (number : ℕ) (told : EntryNumbers) : Type 0 where
  pub entry : Entry
  pub there : slice_get engine.service.entries (number - 1) ≡ Some entry
  pub is_told : told ≡ entry_numbers number entry
