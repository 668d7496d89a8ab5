use Rattle.std.proofs.Common.{bytes_eq}
use Rattle.rail_text.proofs.WordEnds.{IsSought}
use Rattle.rail_text.proofs.line_words.LineWords.number_of.Given as goal

abbrev pub invariant-loop-i : goal.invariant-loop-i
invariant-loop-i l = IsSought (bytes_eq l.word) l.self l.i
