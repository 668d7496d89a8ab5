use Rattle.std.proofs.Common.{◌≡◌, ◌++◌, drop}
use Rattle.line_picture.specs.Boxes.{boxes_text}
use Rattle.line_picture.proofs.box_drawing.put_boxes.Given as goal

abbrev pub invariant-loop-at : goal.invariant-loop-at
invariant-loop-at l = record {
  text : l.page.text ++ boxes_text l.layout l.at (drop l.at l.boxes)
      ≡ l.fn.page.text ++ boxes_text l.layout 0 l.boxes;
  tags : l.page.open_tags ≡ l.fn.page.open_tags;
}
