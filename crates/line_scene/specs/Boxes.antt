-- What is seen of a box.
use Rattle.std.specs.Prelude.{ℕ, ◌+◌, Bool, List, [], ◌∷◌, ◌++◌, Option, slice_index, slice_index_or}
use Rattle.locking_table.specs.declared.places.End.{End}
use Rattle.line_plan.specs.Frames.{BoxFields}
use Rattle.line_plan.specs.declared.frame.Lever.{Lever}
use Rattle.line_plan.specs.declared.signal.Signal.{Signal}
use Rattle.line_law.specs.declared.state.BoxState.{BoxState}
use Rattle.line_law.specs.LeverEnds.{is_off, is_pulled}
use Rattle.line_law.specs.States.{LineState, box_at}
use Rattle.line_scene.specs.declared.diagram.Diagram.{Diagram}
use Rattle.line_scene.specs.declared.shown.Shown.{Shown}
use Rattle.line_scene.specs.declared.walk.Spot.{Spot}

-- where a place stands
abbrev pub spot_at : List Spot → ℕ → Spot
spot_at spots place = slice_index_or spots place (record { row = 0; column = 0 })

-- the places of box b, from this one on, each with the train on it
abbrev pub places_shown : ℕ → List Spot → ℕ → List (Option ℕ) → List Shown
places_shown b spots place [] = []
places_shown b spots place (there ∷ rest) =
    Shown.Place b place (spot_at spots place) there ∷ places_shown b spots (place + 1) rest

-- the arm of a signal of box b
abbrev pub arm_shown : ℕ → List Spot → List Bool → ℕ → Signal → Shown
arm_shown b spots off rank signal =
    Shown.Arm b signal.lever (spot_at spots signal.from) rank signal.to (is_off off signal.lever)

-- the arms of these signals of box b, which have the numbers from this one on
abbrev pub arms_shown : ℕ → Diagram → List Bool → ℕ → List Signal → List Shown
arms_shown b diagram off at [] = []
arms_shown b diagram off at (signal ∷ signals) =
    arm_shown b diagram.spots off (slice_index diagram.ranks at) signal
    ∷ arms_shown b diagram off (at + 1) signals

-- a lever of box b
abbrev pub lever_shown : ℕ → List End → Lever → Shown
lever_shown b ends lever = Shown.Lever b lever.number lever.kind (is_pulled ends lever.number)

-- the levers of box b
abbrev pub levers_shown : ℕ → List End → List Lever → List Shown
levers_shown b ends [] = []
levers_shown b ends (lever ∷ levers) = lever_shown b ends lever ∷ levers_shown b ends levers

-- what is seen of box b: its places with the trains on them, its arms, and its levers
unfoldable pub box_shown : ℕ → BoxFields → Diagram → BoxState → List Shown
box_shown b box_plan diagram here =
    places_shown b diagram.spots 0 here.places ++ arms_shown b diagram here.off 0 box_plan.signals
    ++ levers_shown b here.ends box_plan.levers

-- a box without a diagram
abbrev pub no_diagram : Diagram
no_diagram = record { spots = []; rows = 0; ranks = []; arms = 0 }

-- the diagram of box b
abbrev pub diagram_at : List Diagram → ℕ → Diagram
diagram_at diagrams b = slice_index_or diagrams b no_diagram

-- what is seen of these boxes, which have the numbers from b on
abbrev pub boxes_shown : LineState → List Diagram → ℕ → List BoxFields → List Shown
boxes_shown state diagrams b [] = []
boxes_shown state diagrams b (box_plan ∷ boxes) =
    box_shown b box_plan (diagram_at diagrams b) (box_at state b) ++ boxes_shown state diagrams (b + 1) boxes
