use Rattle.std.proofs.Common.{◌≡◌, drop}
use Rattle.locking_table.specs.Sound.{conds_differ}
use Rattle.locking_table.proofs.row.differ.Given as goal

abbrev pub invariant-loop-i : goal.invariant-loop-i
invariant-loop-i l = conds_differ (drop l.i l.conds) ≡ conds_differ l.conds
