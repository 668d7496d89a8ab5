use Rattle.std.proofs.Common.{◌≡◌, ◌-◌, ◌≤◌, drop, length}
use Rattle.std.specs.List.{list_all}
use Rattle.rail_text.specs.Forms.{is_printable}
use Rattle.rail_text.proofs.line_words.are_printable.Given as goal

abbrev pub invariant-loop-at : goal.invariant-loop-at
invariant-loop-at l = record {
  within : l.at ≤ length l.text;
  rest : list_all is_printable (drop l.at l.text) ≡ list_all is_printable l.text;
}

abbrev pub decreases-loop-at : goal.decreases-loop-at
decreases-loop-at l = length l.text - l.at
