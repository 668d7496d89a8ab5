use Rattle.std.proofs.Common.{◌≡◌, ◌++◌, drop, map, string_bytes}
use Rattle.std.specs.List.{flat_map}
use Rattle.typed_words.specs.Lines.{spaced_word}
use Rattle.typed_words.proofs.words.put_words.Given as goal

abbrev pub invariant-loop-word : goal.invariant-loop-word
invariant-loop-word l =
    string_bytes l.out ++ flat_map spaced_word (map (λ word. word.now) (drop l.word-index l.words))
    ≡ string_bytes l.fn.out ++ flat_map spaced_word (map (λ word. word.now) l.words)
