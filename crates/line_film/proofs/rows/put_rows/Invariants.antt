use Rattle.std.proofs.Common.{◌≡◌, ◌++◌, drop}
use Rattle.line_film.specs.Rows.{rows_html}
use Rattle.line_film.proofs.rows.put_rows.Given as goal

abbrev pub invariant-loop-words : goal.invariant-loop-words
invariant-loop-words l = record {
  text : l.page.text ++ rows_html (drop l.words-index l.told) ≡ l.fn.page.text ++ rows_html l.told;
  tags : l.page.open_tags ≡ l.fn.page.open_tags;
}
