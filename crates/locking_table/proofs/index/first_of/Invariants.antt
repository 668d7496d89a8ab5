use Rattle.std.proofs.Common.{◌≡◌, drop}
use Rattle.locking_table.specs.Index.{first_of}
use Rattle.locking_table.proofs.index.first_of.Given as goal

abbrev pub invariant-loop-number : goal.invariant-loop-number
invariant-loop-number l =
    first_of l.ends l.lever l.rows (drop l.number-index l.numbers) ≡ first_of l.ends l.lever l.rows l.numbers
