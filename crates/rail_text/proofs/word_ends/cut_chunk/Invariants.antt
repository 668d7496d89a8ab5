use Rattle.std.proofs.Common.{ℕ, ◌+◌, ◌≤◌, length, min}
use Rattle.rail_text.specs.Cutting.{IsCutUpTo}
use Rattle.rail_text.proofs.Cuts.{AreBits}
use Rattle.rail_text.proofs.word_ends.cut_chunk.Given as goal

abbrev pub invariant-loop-left : goal.invariant-loop-left
invariant-loop-left l = record {
  at : ℕ;
  low : l.from ≤ at;
  high : at ≤ min (l.from + 16) (length l.text);
  cut : IsCutUpTo l.text l.ends at l.cutting.spaces l.cutting.start l.cutting.gap;
  bits : AreBits l.text l.from at l.left;
}

abbrev pub decreases-loop-left : goal.decreases-loop-left
decreases-loop-left l = l.left
