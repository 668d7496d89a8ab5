use Rattle.std.proofs.Common.{◌≡◌, ◌++◌, drop}
use Rattle.std.specs.Prelude.{map}
use Rattle.sheet_text.specs.declared.rows.Row.{Row}
use Rattle.sheet_text.specs.declared.rows.Row.TheVariants as rows
use Rattle.sheet_text.specs.Rows.{line_rows}
use Rattle.sheet_text.proofs.rows.add_line.Given as goal

abbrev pub invariant-loop-entry : goal.invariant-loop-entry
invariant-loop-entry l =
    l.rows.items ++ map (λ entry. rows.Remark entry) (drop l.entry-index l.remarks)
    ≡ l.fn.rows.items ++ line_rows l.number l.fn.line l.remarks
