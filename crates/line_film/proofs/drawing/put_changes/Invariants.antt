use Rattle.std.proofs.Common.{◌≡◌, ◌++◌, drop}
use Rattle.line_film.specs.Drawing.{changes_html}
use Rattle.line_film.proofs.drawing.put_changes.Given as goal

abbrev pub invariant-loop-change : goal.invariant-loop-change
invariant-loop-change l = record {
  text : l.page.text ++ changes_html l.plan l.layout (drop l.change-index l.changes)
      ≡ l.fn.page.text ++ changes_html l.plan l.layout l.changes;
  tags : l.page.open_tags ≡ l.fn.page.open_tags;
}
