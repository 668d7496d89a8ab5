use Rattle.std.proofs.Common.{◌≡◌}
use Rattle.frame_chart.specs.Laying.{column_of, most_crossed}
use Rattle.frame_chart.proofs.column.column_of.Given as goal

abbrev pub invariant-loop-before : goal.invariant-loop-before
invariant-loop-before l = record {
  column : l.column ≡ column_of l.before l.spans;
  most : l.most ≡ most_crossed l.before l.spans;
}
