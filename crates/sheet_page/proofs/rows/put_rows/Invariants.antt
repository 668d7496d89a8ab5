use Rattle.std.proofs.Common.{◌≡◌, ◌++◌, drop}
use Rattle.sheet_page.specs.Rows.{rows_html}
use Rattle.sheet_page.proofs.rows.put_rows.Given as goal

abbrev pub invariant-loop-row : goal.invariant-loop-row
invariant-loop-row l = record {
  text : l.page.text ++ rows_html l.plan l.entries (drop l.row-index l.rows)
      ≡ l.fn.page.text ++ rows_html l.plan l.entries l.rows;
  tags : l.page.open_tags ≡ l.fn.page.open_tags;
}
