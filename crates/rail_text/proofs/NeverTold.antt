-- A reader that takes no memory never tells of its want.
use Rattle.std.proofs.Common.{Result, Ok, Err, refl}
use Rattle.rail_text.specs.Gives.{FaultsFirst, TakesNoMemory}
use Rattle.rail_text.specs.declared.cause.Cause.{Cause}
use Rattle.rail_text.specs.declared.line_fault.LineFault.{LineFault}
use Rattle.rail_text.specs.declared.line_fault.LineFault.TheVariants as faults

pub never_told : {X Y : Type 0} (result : Result X LineFault) (read : Result Y Cause) → TakesNoMemory result
    → FaultsFirst result read
never_told (Ok x) read h = tt
never_told (Err (faults.Cause cause)) read h = tt
never_told (Err faults.NoMemory) read h = absurd (h refl)

pub ruleset memory_rules = (never_told)
