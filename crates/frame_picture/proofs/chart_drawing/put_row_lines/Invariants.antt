use Rattle.std.proofs.Common.{◌≡◌, ◌++◌, drop}
use Rattle.frame_picture.specs.Channels.{rows_from}
use Rattle.frame_picture.proofs.chart_drawing.put_row_lines.Given as goal

abbrev pub invariant-loop-before : goal.invariant-loop-before
invariant-loop-before l = record {
  text : l.page.text ++ rows_from l.layout l.before (drop l.before l.rows)
      ≡ l.fn.page.text ++ rows_from l.layout 0 l.rows;
  tags : l.page.open_tags ≡ l.fn.page.open_tags;
}
