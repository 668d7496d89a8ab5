use Rattle.std.proofs.Common.{◌≡◌, ◌+◌, ◌≤◌, ◌++◌, drop, length}
use Rattle.frame_chart.specs.Charts.{crossed_by, crossed_from}
use Rattle.frame_chart.proofs.column.crossed_by.Given as goal

abbrev pub invariant-loop-i : goal.invariant-loop-i
invariant-loop-i l = record {
  same : l.numbers.items ++ crossed_from (l.i + 1) l.lever (drop l.i l.spans) ≡ crossed_by l.lever l.spans;
  few : length l.numbers.items ≤ l.i;
}
