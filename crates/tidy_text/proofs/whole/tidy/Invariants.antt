use Rattle.std.proofs.Common.{◌≡◌, ◌++◌, length}
use Rattle.rail_text.specs.Lines.{lines_of}
use Rattle.tidy_text.specs.Tidy.{tidy_lines, tidy_text}
use Rattle.tidy_text.proofs.whole.tidy.Given as goal

abbrev pub invariant-loop-line : goal.invariant-loop-line
invariant-loop-line l = l.text.items ++ tidy_lines (lines_of l.lines.rest) ≡ tidy_text l.bytes

abbrev pub decreases-loop-line : goal.decreases-loop-line
decreases-loop-line l = length l.lines.rest
