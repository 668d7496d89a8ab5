use Rattle.std.proofs.Common.{◌≡◌, ◌+◌, ◌*◌, ◌≤◌, map}
use Rattle.std.specs.List.{range_with_len}
use Rattle.graph_picture.specs.Places.{AreLow, top_of}
use Rattle.graph_picture.proofs.layout.tops_by.Given as goal

abbrev pub invariant-loop-box_plan : goal.invariant-loop-box_plan
invariant-loop-box_plan l = record {
  top : l.top ≡ top_of l.boxes l.box_plan-index;
  tops : l.tops.items ≡ map (top_of l.boxes) (range_with_len 0 l.box_plan-index);
  most : l.top ≤ 130 + l.box_plan-index * 2000;
  low : AreLow l.tops.items;
}
