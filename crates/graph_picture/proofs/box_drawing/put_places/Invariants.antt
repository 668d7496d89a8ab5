use Rattle.std.proofs.Common.{◌≡◌, ◌+◌, ◌*◌, ◌++◌, drop}
use Rattle.graph_picture.specs.Boxes.{places_text}
use Rattle.graph_picture.proofs.box_drawing.put_places.Given as goal

abbrev pub invariant-loop-place : goal.invariant-loop-place
invariant-loop-place l = record {
  text : l.page.text ++ places_text l.right l.y (drop l.place l.places)
      ≡ l.fn.page.text ++ places_text l.right l.top l.places;
  tags : l.page.open_tags ≡ l.fn.page.open_tags;
  level : l.y ≡ l.top + 14 * l.place;
}
