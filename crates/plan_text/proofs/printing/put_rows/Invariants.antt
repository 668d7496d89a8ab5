use Rattle.std.proofs.Common.{◌≡◌, ◌++◌, drop, map, string_bytes}
use Rattle.plan_text.specs.Printing.{row_line, printed}
use Rattle.plan_text.proofs.printing.put_rows.Given as goal

abbrev pub invariant-loop-row : goal.invariant-loop-row
invariant-loop-row l =
    string_bytes l.out ++ printed (map row_line (drop l.row-index l.rows))
    ≡ string_bytes l.initial.out ++ printed (map row_line l.rows)
