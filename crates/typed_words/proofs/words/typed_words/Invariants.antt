use Rattle.std.proofs.Common.{◌≡◌, ◌++◌, drop, filter, map, not}
use Rattle.rail_text.specs.Lines.{is_empty_word}
use Rattle.typed_words.specs.Lines.{typed_words}
use Rattle.typed_words.proofs.words.typed_words.Given as goal

abbrev pub invariant-loop-piece : goal.invariant-loop-piece
invariant-loop-piece l =
    map (λ word. word.now) l.words.items
    ++ filter (λ word. not (is_empty_word word)) (map (λ word. word.now) (drop l.piece-index l.piece-items))
    ≡ typed_words l.line
