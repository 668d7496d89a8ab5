use Rattle.std.proofs.Common.{◌+◌, ◌-◌, ◌≤◌, length}
use Rattle.locking_table.specs.Index.{AreAlike}
use Rattle.locking_table.proofs.index.widen.Given as goal

abbrev pub invariant-loop-alloc : goal.invariant-loop-alloc
invariant-loop-alloc l = record {
  wide : length l.initial.uses.items ≤ length l.uses.items;
  same : AreAlike l.initial.uses.items l.uses.items;
}

abbrev pub decreases-loop-alloc : goal.decreases-loop-alloc
decreases-loop-alloc l = l.lever + 1 - length l.uses.items
