use Rattle.std.proofs.Common.{◌≡◌, ◌++◌, drop}
use Rattle.line_scene.specs.Boxes.{places_shown}
use Rattle.line_scene.proofs.box_shown.add_places.Given as goal

abbrev pub invariant-loop-place : goal.invariant-loop-place
invariant-loop-place l =
    l.shown.items ++ places_shown l.box_no l.spots l.place (drop l.place l.places)
    ≡ l.fn.shown.items ++ places_shown l.box_no l.spots 0 l.places
