use Rattle.std.proofs.Common.{◌≡◌}
use Rattle.signalman_seats.specs.Men.{IsOf}
use Rattle.desk_tests.proofs.tests.threads.works.Given as goal

abbrev pub invariant-loop-call : goal.invariant-loop-call
invariant-loop-call l = record {
  line : IsOf l.line.table.shared.table_id l.line.table.shared.key l.man;
  box_no : l.man.box_no ≡ l.fn.man.box_no;
}
