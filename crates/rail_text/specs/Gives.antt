-- What a reader answers, and what reading gives.
use Rattle.std.specs.Prelude.{◌≡◌, ◌≢◌, ℕ, Result, Ok, Err, IsOk}
use Rattle.rail_text.specs.declared.cause.Cause.{Cause}
use Rattle.rail_text.specs.declared.cause.ReadError.{ReadError}
use Rattle.rail_text.specs.declared.cause.ReadError.TheVariants as errors
use Rattle.rail_text.specs.declared.line_fault.LineFault.{LineFault}
use Rattle.rail_text.specs.declared.line_fault.LineFault.TheVariants as faults

-- what is read, and then what is made of it; a fault stands
infixl 10 ◌>>=◌
abbrev pub ◌>>=◌ : {A B E : Type 0} → Result A E → (A → Result B E) → Result B E
(Ok x) >>= f = f x
(Err e) >>= f = Err e

-- the line's reader fails for what is wrong with the line; want of memory is free
abbrev pub FailsLine : {Y : Type 0} → LineFault → Result Y Cause → Type 0
FailsLine (faults.Cause cause) read = read ≡ Err cause
FailsLine faults.NoMemory read = Unit {0}

-- The line's reader gives what reading gives, unless memory ran out.
abbrev pub GivesLine : {X Y : Type 0} → (X → Y) → Result X LineFault → Result Y Cause → Type 0
GivesLine view (Ok x) read = read ≡ Ok (view x)
GivesLine view (Err e) read = FailsLine e read

-- Faults come first: want of memory is told only of a line that has none.
abbrev pub FaultsFirst : {X Y : Type 0} → Result X LineFault → Result Y Cause → Type 0
FaultsFirst (Ok x) read = Unit {0}
FaultsFirst (Err (faults.Cause cause)) read = Unit {0}
FaultsFirst (Err faults.NoMemory) read = IsOk read

-- The reader gives what reading gives, or its cause.
abbrev pub GivesCause : {X Y : Type 0} → (X → Y) → Result X Cause → Result Y Cause → Type 0
GivesCause view (Ok x) read = read ≡ Ok (view x)
GivesCause view (Err cause) read = read ≡ Err cause

-- The line's reader takes no memory, so it never fails for want of it.
abbrev pub TakesNoMemory : {X : Type 0} → Result X LineFault → Type 0
TakesNoMemory result = result ≢ Err faults.NoMemory

-- a line's number and what is wrong with it
pub record Fault : Type 0 where
  pub line : ℕ
  pub cause : Cause

-- the text's reader refuses for what is wrong with that line; want of memory is free
abbrev pub FailsText : {Y : Type 0} → ReadError → Result Y Fault → Type 0
FailsText (errors.Refused line cause) read = read ≡ Err (record { line = line; cause = cause })
FailsText errors.NoMemory read = Unit {0}

-- The text's reader gives what reading gives, unless memory ran out.
abbrev pub GivesText : {X Y : Type 0} → (X → Y) → Result X ReadError → Result Y Fault → Type 0
GivesText view (Ok x) read = read ≡ Ok (view x)
GivesText view (Err e) read = FailsText e read
