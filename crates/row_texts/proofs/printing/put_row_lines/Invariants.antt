use Rattle.std.proofs.Common.{◌≡◌, ◌++◌, drop, string_bytes}
use Rattle.row_texts.specs.Printing.{row_lines}
use Rattle.row_texts.proofs.printing.put_row_lines.Given as goal

abbrev pub invariant-loop-row : goal.invariant-loop-row
invariant-loop-row l = string_bytes l.out ++ row_lines (drop l.row-index l.rows)
    ≡ string_bytes l.fn.out ++ row_lines l.rows
