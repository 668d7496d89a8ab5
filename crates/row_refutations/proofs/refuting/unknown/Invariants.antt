use Rattle.std.proofs.Common.{List}
use Rattle.locking_table.specs.declared.places.End.{End}
use Rattle.row_refutations.specs.Known.{Agrees}
use Rattle.row_refutations.proofs.refuting.unknown.Given as goal

abbrev pub invariant-loop : goal.invariant-loop
invariant-loop l = (state : List End) → Agrees l.known.items state
