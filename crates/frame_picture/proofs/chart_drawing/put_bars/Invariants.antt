use Rattle.std.proofs.Common.{◌≡◌, ◌++◌, drop}
use Rattle.frame_picture.specs.Channels.{bars_text}
use Rattle.frame_picture.proofs.chart_drawing.put_bars.Given as goal

abbrev pub invariant-loop-i : goal.invariant-loop-i
invariant-loop-i l = record {
  text : l.page.text ++ bars_text l.layout (drop l.i l.bars) (drop l.i l.rows)
      ≡ l.fn.page.text ++ bars_text l.layout l.bars l.rows;
  tags : l.page.open_tags ≡ l.fn.page.open_tags;
}
