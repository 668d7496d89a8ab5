use Rattle.std.proofs.Common.{◌≡◌, ◌++◌, drop}
use Rattle.graph_picture.specs.Trains.{lines_text}
use Rattle.graph_picture.proofs.train_drawing.put_lines.Given as goal

abbrev pub invariant-loop-line : goal.invariant-loop-line
invariant-loop-line l = record {
  text : l.page.text ++ lines_text l.plan l.layout l.axis (drop l.line-index l.lines)
      ≡ l.fn.page.text ++ lines_text l.plan l.layout l.axis l.lines;
  tags : l.page.open_tags ≡ l.fn.page.open_tags;
}
