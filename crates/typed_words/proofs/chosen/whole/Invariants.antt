use Rattle.std.proofs.Common.{◌≡◌, drop, map}
use Rattle.typed_words.specs.Chosen.{whole}
use Rattle.typed_words.proofs.chosen.whole.Given as goal

abbrev pub invariant-loop-row : goal.invariant-loop-row
invariant-loop-row l =
    whole (map (λ row. (row.0.now, row.1)) (drop l.row-index l.rows)) l.typed
    ≡ whole (map (λ row. (row.0.now, row.1)) l.rows) l.typed
