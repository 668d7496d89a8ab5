use Rattle.std.proofs.Common.{◌≡◌, ◌++◌, drop, map}
use Rattle.typed_words.specs.Chosen.{words_in}
use Rattle.typed_words.proofs.chosen.words_in.Given as goal

abbrev pub invariant-loop-row : goal.invariant-loop-row
invariant-loop-row l =
    map (λ word. word.now) l.words.items ++ words_in (map (λ row. (row.0.now, row.1)) (drop l.row-index l.rows))
    ≡ words_in (map (λ row. (row.0.now, row.1)) l.rows)
