use Rattle.std.proofs.Common.{◌≡◌, ◌++◌, drop}
use Rattle.row_refutations.specs.Refuted.{rows_at}
use Rattle.row_refutations.proofs.searching.rows_at.Given as goal

abbrev pub invariant-loop-at : goal.invariant-loop-at
invariant-loop-at l = l.chosen.items ++ rows_at l.rows (drop l.at-index l.places) ≡ rows_at l.rows l.places
