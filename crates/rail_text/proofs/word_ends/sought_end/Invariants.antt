use Rattle.std.proofs.Common.{◌≤◌}
use Rattle.rail_text.specs.Cutting.{IsCutTo}
use Rattle.rail_text.proofs.word_ends.sought_end.Given as goal

abbrev pub invariant-loop-at : goal.invariant-loop-at
invariant-loop-at l = record {
  before : l.spaces ≤ l.word;
  cut : IsCutTo l.text l.at l.spaces;
}
