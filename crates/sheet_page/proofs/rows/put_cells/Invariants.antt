use Rattle.std.proofs.Common.{◌≡◌, ◌++◌, drop}
use Rattle.sheet_page.specs.Rows.{cells_html}
use Rattle.sheet_page.proofs.rows.put_cells.Given as goal

abbrev pub invariant-loop-cell : goal.invariant-loop-cell
invariant-loop-cell l = record {
  text : l.page.text ++ cells_html l.plan l.entries (drop l.cell-index l.cells)
      ≡ l.fn.page.text ++ cells_html l.plan l.entries l.cells;
  tags : l.page.open_tags ≡ l.fn.page.open_tags;
}
