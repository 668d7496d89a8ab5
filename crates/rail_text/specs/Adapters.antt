-- The counts of faults of the shelf of files and of the sink of a writer.
use Rattle.std.specs.Prelude.{ℕ, Result, Ok, Err}
use Rattle.rail_text.specs.Causes.{raised}
use Rattle.rail_text.specs.declared.fault.FetchFault.{FetchFault}
use Rattle.rail_text.specs.declared.fault.FetchFault.TheVariants as faults
use Rattle.rail_text.specs.declared.fault.SinkFault.{SinkFault}

-- the count after a fetch: want of memory is no fault
abbrev pub after_fetch : {X : Type 0} → Result X FetchFault → ℕ → ℕ
after_fetch (Ok bytes) count = count
after_fetch (Err faults.Failed) count = raised count
after_fetch (Err faults.NoMemory) count = count

-- the count after a put
abbrev pub after_put : {X : Type 0} → Result X SinkFault → ℕ → ℕ
after_put (Ok n) count = count
after_put (Err e) count = raised count
