-- Where things stand in a picture of a line.
use Rattle.std.specs.Prelude.{ℕ, ◌+◌, ◌-◌, ◌*◌, ◌/◌, ◌%◌, ◌^◌, ◌<◌, All, List, [], ◌∷◌, map, min, slice_index}
use Rattle.block_words.specs.declared.Way.{Way}
use Rattle.block_words.specs.declared.Way.TheVariants.{Up, Down}
use Rattle.line_plan.specs.Frames.{BoxFields, frame_size}
use Rattle.line_plan.specs.Plans.{PlanFields}
use Rattle.line_scene.specs.declared.diagram.Diagram.{Diagram}
use Rattle.line_scene.specs.declared.walk.Spot.{Spot}
use Rattle.line_scene.specs.Boxes.{diagram_at}
use Rattle.picture_shapes.specs.declared.shapes.Point.{Point}

-- the point so far from the left and from the top
abbrev pub point : ℕ → ℕ → Point
point x y = record { x = x; y = y }

-- ---- the room that things take

-- a row of a diagram: the places, and below each the arms on its post, of which there are 120 at most
abbrev pub pitch_of : Diagram → ℕ
pitch_of diagram = 46 + 18 * min diagram.arms 120

-- the rows of a diagram: one for each of 64 places at most
abbrev pub rows_of : Diagram → ℕ
rows_of diagram = min diagram.rows 64 * pitch_of diagram

-- the levers of a frame: 32 in a row, of 120 at most
abbrev pub levers_height : BoxFields → ℕ
levers_height box_plan = (min (frame_size box_plan.levers) 120 + 31) / 32 * 48

-- a box, with its name, its diagram and its levers
abbrev pub height_of : Diagram → BoxFields → ℕ
height_of diagram box_plan = 44 + rows_of diagram + levers_height box_plan

-- ---- the layout

-- the top of each box and where the next would begin, where the levers of each box begin, and how high its rows are
pub record LayoutFields : Type 0 where
  pub tops : List ℕ
  pub frames : List ℕ
  pub pitches : List ℕ

-- no picture is higher than numbers reach
pub record IsLow (layout : LayoutFields) : Type 0 where
  pub tops : All (λ top. top < 2 ^ 40) layout.tops
  pub frames : All (λ frame. frame < 2 ^ 40) layout.frames
  pub pitches : All (λ pitch. pitch < 2 ^ 20) layout.pitches

-- the tops of these boxes, which have the numbers from b on, and where the next would begin, if the first has this top:
-- each box stands below the one before it, and the two sections between them
abbrev pub tops_from : List Diagram → ℕ → ℕ → List BoxFields → List ℕ
tops_from diagrams top b [] = top ∷ []
tops_from diagrams top b (box_plan ∷ boxes) =
    top ∷ tops_from diagrams (top + height_of (diagram_at diagrams b) box_plan + 124) (b + 1) boxes

-- where their levers begin
abbrev pub frames_from : List Diagram → ℕ → ℕ → List BoxFields → List ℕ
frames_from diagrams top b [] = []
frames_from diagrams top b (box_plan ∷ boxes) =
    (top + 36 + rows_of (diagram_at diagrams b))
    ∷ frames_from diagrams (top + height_of (diagram_at diagrams b) box_plan + 124) (b + 1) boxes

-- the layout of boxes with these diagrams
abbrev pub layout_of : List Diagram → List BoxFields → LayoutFields
layout_of diagrams boxes =
    record {
      tops = tops_from diagrams 80 0 boxes;
      frames = frames_from diagrams 80 0 boxes;
      pitches = map pitch_of diagrams;
    }

-- ---- places

-- the top of box b
abbrev pub top_at : LayoutFields → ℕ → ℕ
top_at layout b = slice_index layout.tops b

-- where box b ends
abbrev pub foot_at : LayoutFields → ℕ → ℕ
foot_at layout b = top_at layout (b + 1) - 124

-- where a column of a diagram begins: each row has room for five places, one beside another
abbrev pub column_at : Spot → ℕ
column_at spot = 28 + 210 * min spot.column 5

-- the top of a row of the diagram of box b
abbrev pub row_at : LayoutFields → ℕ → Spot → ℕ
row_at layout b spot = top_at layout b + 36 + min spot.row 64 * slice_index layout.pitches b

-- a spot of the diagram of box b
abbrev pub spot_at : LayoutFields → ℕ → Spot → Point
spot_at layout b spot = point (column_at spot) (row_at layout b spot)

-- an arm on the post at a spot: below the place, and below so many others
abbrev pub arm_at : LayoutFields → ℕ → Spot → ℕ → Point
arm_at layout b spot rank = point (column_at spot) (row_at layout b spot + 38 + 18 * min rank 120)

-- a lever of box b: 32 stand in a row
abbrev pub lever_at : LayoutFields → ℕ → ℕ → Point
lever_at layout b number =
    point (28 + 33 * ((number - 1) % 32)) (slice_index layout.frames b + 48 * min ((number - 1) / 32) 4)

-- a section: below the upper box of its two, first that of the down line
abbrev pub section_at : LayoutFields → ℕ → Way → ℕ
section_at layout rear Down = foot_at layout rear + 8
section_at layout rear Up = foot_at layout (rear - 1) + 64

-- the train so far behind the first on a plain line: the first is the farthest on
abbrev pub train_at : LayoutFields → ℕ → Way → ℕ → Point
train_at layout rear way behind = point (408 + 166 * (3 - behind)) (section_at layout rear way + 24)

-- the height of a picture
abbrev pub height : LayoutFields → ℕ → ℕ
height layout boxes = foot_at layout (boxes - 1) + 80
