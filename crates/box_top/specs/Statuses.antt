-- The exit status of the program.
use Rattle.std.specs.Prelude.{ℕ}
use Rattle.box_top.specs.declared.status.Status.{Status}
use Rattle.box_top.specs.declared.status.Status.TheVariants as statuses

-- the number of each way to end
abbrev pub code_of : Status → ℕ
code_of statuses.Done = 0
code_of statuses.Words = 1
code_of statuses.ShelfFault = 2
code_of statuses.SinkFault = 3
code_of statuses.Refused = 4
code_of statuses.NoMemory = 5
