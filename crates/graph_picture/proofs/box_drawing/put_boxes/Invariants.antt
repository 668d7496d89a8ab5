use Rattle.std.proofs.Common.{◌≡◌, ◌+◌, ◌*◌, ◌≤◌, ◌++◌, drop}
use Rattle.graph_picture.specs.Boxes.{boxes_text}
use Rattle.graph_picture.proofs.box_drawing.put_boxes.Given as goal

abbrev pub invariant-loop-box_plan : goal.invariant-loop-box_plan
invariant-loop-box_plan l = record {
  text : l.page.text ++ boxes_text l.right l.top (drop l.box_plan-index l.boxes)
      ≡ l.fn.page.text ++ boxes_text l.right 130 l.boxes;
  tags : l.page.open_tags ≡ l.fn.page.open_tags;
  most : l.top ≤ 130 + l.box_plan-index * 2000;
}
