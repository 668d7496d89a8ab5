use Rattle.rail_text.specs.Cutting.{IsCutUpTo}
use Rattle.rail_text.proofs.word_ends.cut_bytes.Given as goal

abbrev pub invariant-loop-at : goal.invariant-loop-at
invariant-loop-at l = IsCutUpTo l.text l.ends l.at l.cutting.spaces l.cutting.start l.cutting.gap
