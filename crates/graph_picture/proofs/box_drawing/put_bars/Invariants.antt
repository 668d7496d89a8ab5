use Rattle.std.proofs.Common.{◌≡◌, ◌++◌, drop}
use Rattle.graph_picture.specs.Boxes.{bars_text}
use Rattle.graph_picture.proofs.box_drawing.put_bars.Given as goal

abbrev pub invariant-loop-bar : goal.invariant-loop-bar
invariant-loop-bar l = record {
  text : l.page.text ++ bars_text l.plan l.layout l.axis (drop l.bar-index l.bars)
      ≡ l.fn.page.text ++ bars_text l.plan l.layout l.axis l.bars;
  tags : l.page.open_tags ≡ l.fn.page.open_tags;
}
