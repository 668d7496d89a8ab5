use Rattle.std.proofs.Common.{◌≡◌, ◌++◌, ◌+◌, ◌≤◌, drop}
use Rattle.sheet_text.specs.Rows.{rows_from}
use Rattle.sheet_text.proofs.rows.add_lines.Given as goal

abbrev pub invariant-loop-at : goal.invariant-loop-at
invariant-loop-at l = record {
  few : l.number ≤ l.at;
  rows : l.rows.items ++ rows_from l.way (l.number + 1) l.at l.remarks (drop l.at l.lines)
      ≡ l.fn.rows.items ++ rows_from l.way 1 0 l.remarks l.lines;
}
