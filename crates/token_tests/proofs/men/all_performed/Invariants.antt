use Rattle.token_block.specs.Men.{IsOf}
use Rattle.token_tests.proofs.men.all_performed.Given as goal

abbrev pub invariant-loop-box_no : goal.invariant-loop-box_no
invariant-loop-box_no l = record {
  one : IsOf l.line.table.shared.table_id l.line.table.shared.key l.one;
  other : IsOf l.line.table.shared.table_id l.line.table.shared.key l.other;
}
