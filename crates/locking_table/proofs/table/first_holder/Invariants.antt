use Rattle.std.proofs.Common.{◌≡◌, ◌+◌, drop}
use Rattle.locking_table.specs.Meaning.{first_holder}
use Rattle.locking_table.proofs.table.first_holder.Given as goal

abbrev pub invariant-loop-i : goal.invariant-loop-i
invariant-loop-i l = first_holder l.ends l.lever (l.i + 1) (drop l.i l.rows) ≡ first_holder l.ends l.lever 1 l.rows
