use Rattle.std.proofs.Common.{◌-◌, ◌≤◌, bytes_eq, codes, drop}
use Rattle.rail_text.proofs.WordEnds.{IsSought}
use Rattle.line_report.proofs.entry_line.arrow_behind.Given as goal

abbrev pub invariant-loop-i : goal.invariant-loop-i
invariant-loop-i l = record {
  low : l.from ≤ l.i;
  sought : IsSought (bytes_eq (codes "->")) (drop l.from l.words) (l.i - l.from);
}
