use Rattle.std.proofs.Common.{List}
use Rattle.locking_table.specs.declared.places.End.{End}
use Rattle.row_refutations.specs.Known.{Agrees}
use Rattle.row_refutations.specs.Refuted.{HoldIn}
use Rattle.row_refutations.proofs.refuting.go_on.Given as goal

abbrev pub invariant-loop : goal.invariant-loop
invariant-loop l = (state : List End) → HoldIn l.rows state → Agrees l.initial.known state → Agrees l.known state
