-- When a reader may tell of want of memory.
use Rattle.std.specs.Prelude.{◌≡◌, Result, Ok, Err, IsOk}
use Rattle.rail_text.specs.declared.cause.Cause.{Cause}
use Rattle.rail_text.specs.declared.line_fault.LineFault.{LineFault}
use Rattle.rail_text.specs.declared.line_fault.LineFault.TheVariants as faults

-- Want of memory is told only of a line that has no fault, and leaves what is read as it was.
abbrev pub RunsOut : {D : Type 0} → D → D → Result (Unit {0}) LineFault → Result D Cause → Type 0
RunsOut old new (Ok done) read = Unit {0}
RunsOut old new (Err (faults.Cause cause)) read = Unit {0}
RunsOut old new (Err faults.NoMemory) read = IsOk read × (new ≡ old)
