use Rattle.std.proofs.Common.{◌≡◌, drop, map}
use Rattle.typed_words.specs.Lines.{in_full, onto_full}
use Rattle.typed_words.proofs.full.put_in_full.Given as goal

abbrev pub invariant-loop-k : goal.invariant-loop-k
invariant-loop-k l =
    onto_full (map (λ word. word.now) l.full.items)
    (in_full l.behind l.from l.k (map (λ word. word.now) (drop l.k l.words)))
    ≡ onto_full (map (λ word. word.now) l.fn.full.items)
    (in_full l.behind l.from 0 (map (λ word. word.now) l.words))
