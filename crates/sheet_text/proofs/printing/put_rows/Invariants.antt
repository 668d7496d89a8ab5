use Rattle.std.proofs.Common.{◌≡◌, ◌++◌, drop, string_bytes}
use Rattle.sheet_text.specs.Texts.{rows_text}
use Rattle.sheet_text.proofs.printing.put_rows.Given as goal

abbrev pub invariant-loop-at : goal.invariant-loop-at
invariant-loop-at l =
    string_bytes l.out ++ rows_text l.plan l.entries l.box_no l.way l.at (drop l.at l.rows)
    ≡ string_bytes l.fn.out ++ rows_text l.plan l.entries l.box_no l.way 0 l.rows
