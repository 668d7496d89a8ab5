use Rattle.signalman_seats.specs.Lines.{AreMen}
use Rattle.desk_tests.proofs.hands.perform_all.Given as goal

abbrev pub invariant-loop-entry : goal.invariant-loop-entry
invariant-loop-entry l = AreMen l.line.table.shared.table_id l.line.table.shared.key l.men.items
