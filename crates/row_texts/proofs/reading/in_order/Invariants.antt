use Rattle.std.proofs.Common.{◌≡◌}
use Rattle.row_texts.specs.Texts.{rows_below}
use Rattle.row_texts.proofs.reading.in_order.Given as goal

abbrev pub invariant-loop-list : goal.invariant-loop-list
invariant-loop-list l = l.rows.items ≡ rows_below l.list-index l.entries
