-- What stands behind a line's first word.
use Rattle.std.proofs.Common.{◌≡◌, ℕ, List, sym, ap, ◌∙◌}
use Rattle.std.specs.List.{join_with_byte}
use Rattle.rail_text.specs.Lines.{words_of}
use Rattle.rail_text.proofs.PrintedLines.{joined-words_of}

pub joined_is : (rest : List ℕ) (words : List (List ℕ)) → words_of rest ≡ words → rest ≡ join_with_byte 32 words
joined_is rest words e = sym (joined-words_of rest) ∙ ap (join_with_byte 32) e

pub ruleset behind_rules = (joined_is)
