use Rattle.std.proofs.Common.{◌+◌, ◌-◌, length}
use Rattle.line_plan.specs.Numbers.{AreAlike}
use Rattle.line_plan.proofs.numbers.widen.Given as goal

abbrev pub invariant-loop-places : goal.invariant-loop-places
invariant-loop-places l = AreAlike l.initial.places.items l.places.items

abbrev pub decreases-loop-places : goal.decreases-loop-places
decreases-loop-places l = l.number + 1 - length l.places.items
