use Rattle.std.proofs.Common.{◌-◌, ◌≤◌, length}
use Rattle.rail_text.specs.Cutting.{IsCutUpTo}
use Rattle.rail_text.proofs.word_ends.cut_chunks.Given as goal

abbrev pub invariant-loop-at : goal.invariant-loop-at
invariant-loop-at l = record {
  within : l.at ≤ length l.text;
  cut : IsCutUpTo l.text l.ends l.at l.cutting.spaces l.cutting.start l.cutting.gap;
}

abbrev pub decreases-loop-at : goal.decreases-loop-at
decreases-loop-at l = length l.text - l.at
