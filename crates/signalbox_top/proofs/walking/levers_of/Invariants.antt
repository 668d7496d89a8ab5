use Rattle.std.proofs.Common.{◌≡◌, ◌++◌, Ok, drop, map}
use Rattle.rail_text.specs.Words.{number_in}
use Rattle.text_fetch.specs.FromTexts.{named}
use Rattle.signalbox_top.proofs.walking.levers_of.Given as goal

abbrev pub invariant-loop-word : goal.invariant-loop-word
invariant-loop-word l =
    map (λ lever. Ok lever) l.levers.items ++ map (number_in 1 120) (named (drop l.word-index l.words))
    ≡ map (number_in 1 120) (named l.words)
