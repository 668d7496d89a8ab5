-- A reader that takes no memory never tells of its want.
use Rattle.std.proofs.Common.{Result, Ok, Err, refl}
use Rattle.rail_text.specs.Gives.{FaultsFirst, TakesNoMemory}
use Rattle.rail_text.specs.declared.cause.Cause.{Cause}
use Rattle.rail_text.specs.declared.line_fault.LineFault.{LineFault}
use Rattle.rail_text.specs.declared.line_fault.LineFault.TheVariants as faults
use Rattle.script_text.specs.Memory.{RunsOut}

pub never_runs_out : {D : Type 0} (old new : D) (result : Result (Unit {0}) LineFault) (read : Result D Cause)
    → TakesNoMemory result → RunsOut old new result read
never_runs_out old new (Ok done) read h = tt
never_runs_out old new (Err (faults.Cause cause)) read h = tt
never_runs_out old new (Err faults.NoMemory) read h = absurd (h refl)

-- that a line has no fault where memory runs out is the first half of what is said there
pub faults_first : {D : Type 0} (old new : D) (result : Result (Unit {0}) LineFault) (read : Result D Cause)
    → RunsOut old new result read → FaultsFirst result read
faults_first old new (Ok done) read h = tt
faults_first old new (Err (faults.Cause cause)) read h = tt
faults_first old new (Err faults.NoMemory) read h = h.0

-- of a reader that never runs out of memory
pub ruleset memory_rules = (never_runs_out)
