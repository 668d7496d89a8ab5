use Rattle.std.proofs.Common.{◌≡◌, ◌++◌}
use Rattle.line_scene.specs.Diagrams.{places_below}
use Rattle.line_scene.proofs.diagram.add_places.Given as goal

abbrev pub invariant-loop-place : goal.invariant-loop-place
invariant-loop-place l = l.starts.items ≡ l.fn.starts.items ++ places_below l.place
