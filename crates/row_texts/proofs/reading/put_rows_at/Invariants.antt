use Rattle.std.proofs.Common.{◌≡◌, ◌++◌, drop}
use Rattle.row_texts.specs.Texts.{rows_at}
use Rattle.row_texts.proofs.reading.put_rows_at.Given as goal

abbrev pub invariant-loop-place : goal.invariant-loop-place
invariant-loop-place l = l.rows.items ++ rows_at l.entries (drop l.place-index l.places)
    ≡ l.fn.rows.items ++ rows_at l.entries l.places
