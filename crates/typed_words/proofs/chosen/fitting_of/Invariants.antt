use Rattle.std.proofs.Common.{◌≡◌, ◌++◌, drop, map}
use Rattle.typed_words.specs.Chosen.{fitting_of}
use Rattle.typed_words.proofs.chosen.fitting_of.Given as goal

abbrev pub invariant-loop-row : goal.invariant-loop-row
invariant-loop-row l =
    map (λ row. (row.0.now, row.1)) l.fits.items
    ++ fitting_of (map (λ row. (row.0.now, row.1)) (drop l.row-index l.rows)) l.kind l.typed
    ≡ fitting_of (map (λ row. (row.0.now, row.1)) l.rows) l.kind l.typed
