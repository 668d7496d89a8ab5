use Rattle.std.proofs.Common.{◌≡◌, ◌+◌, ◌++◌, length}
use Rattle.rail_text.specs.Lines.{lines_of}
use Rattle.rehearsal_report.specs.CallLines.{kept_numbers}
use Rattle.rehearsal_report.proofs.call_lines.kept_numbers.Given as goal

abbrev pub invariant-loop-line : goal.invariant-loop-line
invariant-loop-line l =
    l.numbers.items ++ kept_numbers (l.lines.number + 1) (lines_of l.lines.rest) ≡ kept_numbers 1 (lines_of l.bytes)

abbrev pub decreases-loop-line : goal.decreases-loop-line
decreases-loop-line l = length l.lines.rest
