use Rattle.token_block.specs.Men.{IsOf}
use Rattle.token_tests.proofs.threads.makes_each.Given as goal

abbrev pub invariant-loop-at : goal.invariant-loop-at
invariant-loop-at l = IsOf l.line.table.shared.table_id l.line.table.shared.key l.man
