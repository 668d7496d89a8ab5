use Rattle.token_block.specs.Men.{IsOf}
use Rattle.token_tests.proofs.threads.works.Given as goal

abbrev pub invariant-loop : goal.invariant-loop
invariant-loop l = IsOf l.line.table.shared.table_id l.line.table.shared.key l.man
