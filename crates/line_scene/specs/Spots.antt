-- No two places of a box stand at one spot of its diagram.
use Rattle.std.specs.Prelude.{ℕ, ◌<◌, ◌≢◌, length}
use Rattle.line_plan.specs.Frames.{BoxFields}
use Rattle.line_scene.specs.declared.diagram.Diagram.{Diagram}
use Rattle.line_scene.specs.declared.walk.Spot.{Spot}
use Rattle.line_scene.specs.Boxes.{spot_at}
use Rattle.line_scene.specs.Diagrams.{diagram_of}

-- where a place of a box stands
abbrev pub spot_of : BoxFields → ℕ → Spot
spot_of box_plan place = spot_at (diagram_of box_plan).spots place

-- each place of a box stands at a spot of its own
abbrev pub HasOwnSpots : BoxFields → Type 0
HasOwnSpots box_plan =
    (one other : ℕ) → one < length box_plan.places → other < length box_plan.places → one ≢ other
    → spot_of box_plan one ≢ spot_of box_plan other

-- a spot is in one of the rows of a diagram, and in one of its five columns
pub record IsInDiagram (diagram : Diagram) (spot : Spot) : Type 0 where
  pub row : spot.row < diagram.rows
  pub column : spot.column < 5

-- each place of a box stands in its diagram
abbrev pub StandsInDiagram : BoxFields → Type 0
StandsInDiagram box_plan =
    (place : ℕ) → place < length box_plan.places → IsInDiagram (diagram_of box_plan) (spot_of box_plan place)
