-- Lines that open, and texts that are refused.
use Rattle.std.specs.Prelude.{◌≡◌, ℕ, List, Option, Some, None, Result, Ok, Err, codes, length, position, bytes_eq}
use Rattle.rail_text.specs.Gives.{Fault}
use Rattle.rail_text.specs.declared.cause.Cause.{Cause}
use Rattle.rail_text.specs.declared.cause.ReadError.{ReadError}
use Rattle.rail_text.specs.declared.cause.ReadError.TheVariants as errors
use Rattle.line_plan.specs.Plans.{PlanFields, names_of}
use Rattle.plan_draft.specs.Reading.{plan_of}
use Rattle.line_numbers.specs.CauseNumbers.{cause_number}
use Rattle.fault_sentences.specs.Explained.{Explains}
use Rattle.line_engine.specs.Engines.{EngineFields, opened}
use Rattle.line_c.specs.Looks.{Fills}
use Rattle.line_c.specs.declared.lines.FaultNumbers.{FaultNumbers}
use Rattle.line_c.specs.declared.status.TheConstants.{NO_MEMORY, REFUSED}

-- a fault in numbers
abbrev pub fault_numbers : ℕ → Cause → FaultNumbers
fault_numbers line cause = record { line = line; cause = cause_number cause }

-- the line of the plan that a text spells is held as it opens
pub record IsOpened (text : List ℕ) (new : Option EngineFields) : Type 0 where
  pub plan : PlanFields
  pub read : plan_of text ≡ Ok plan
  pub is : new ≡ Some (opened plan)

-- a text that was read so is refused for its first fault, which is told
pub record IsRefused {X : Type 0} (read : Result X Fault) (told : FaultNumbers) : Type 0 where
  pub line : ℕ
  pub cause : Cause
  pub refused : read ≡ Err (record { line = line; cause = cause })
  pub is_told : told ≡ fault_numbers line cause

-- what a reader's error is answered: its fault is told, where it has one
abbrev pub IsRefusal : ReadError → ℕ → FaultNumbers → FaultNumbers → Type 0
IsRefusal (errors.Refused line cause) status old new = (status ≡ REFUSED) × (new ≡ fault_numbers line cause)
IsRefusal errors.NoMemory status old new = (status ≡ NO_MEMORY) × (new ≡ old)

-- the box of that name, from 0
abbrev pub engine_box : EngineFields → List ℕ → Option ℕ
engine_box engine name = position (bytes_eq name) (names_of engine.service.plan.boxes)

-- the text of a plan is refused, and why fills the front of a room
pub record IsExplained (text : List ℕ) (old new : List ℕ) (told : ℕ) : Type 0 where
  pub fault : Fault
  pub why : List ℕ
  pub refused : plan_of text ≡ Err fault
  pub explains : Explains (codes "plan") text fault.line fault.cause why
  pub fills : Fills why old new
  pub is_told : told ≡ length why
