-- Where things stand in a picture of a train graph.
use Rattle.std.specs.Prelude.{ℕ, ◌+◌, ◌-◌, ◌*◌, ◌^◌, ◌<◌, ◌≤◌, All, List, Option, Some, None, length, map, max}
use Rattle.std.specs.Prelude.{slice_index, take}
use Rattle.std.specs.List.{range_with_len, sum_by}
use Rattle.block_words.specs.declared.Way.{Way}
use Rattle.block_words.specs.declared.Way.TheVariants.{Up, Down}
use Rattle.line_plan.specs.Frames.{BoxFields}
use Rattle.line_plan.specs.Plans.{PlanFields}
use Rattle.graph_scene.specs.Moments.{AxisFields as Axis, start_at}
use Rattle.picture_shapes.specs.declared.shapes.Point.{Point}

-- the point so far from the left and from the top
abbrev pub point : ℕ → ℕ → Point
point x y = record { x = x; y = y }

-- ---- from left to right

-- how far from the left an entry stands
abbrev pub entry_at : Axis → ℕ → ℕ
entry_at axis entry = 200 + slice_index axis.places entry

-- where a moment begins
abbrev pub moment_at : Axis → ℕ → ℕ
moment_at axis moment = 200 + start_at axis moment

-- where the graph ends
abbrev pub right_end : Axis → ℕ
right_end axis = moment_at axis axis.ending

-- where something ends that lasts up to an entry, or to the end of the graph
abbrev pub end_at : Axis → Option ℕ → ℕ
end_at axis None = right_end axis
end_at axis (Some entry) = entry_at axis entry

-- the width of a picture
abbrev pub width : Axis → ℕ
width axis = max 900 (right_end axis + 100)

-- ---- from top to bottom

-- the height of a box, with a level for each of its places
abbrev pub height_of : BoxFields → ℕ
height_of box_plan = 14 * length box_plan.places + 8

-- the room that a box takes, with the plain line below it
abbrev pub room_of : BoxFields → ℕ
room_of box_plan = height_of box_plan + 100

-- the top of box b: each box stands below the one before it, and the plain line between them
abbrev pub top_of : List BoxFields → ℕ → ℕ
top_of boxes b = 130 + sum_by room_of (take b boxes)

-- the tops of boxes, and where the next would begin
abbrev pub tops_by : List BoxFields → List ℕ
tops_by boxes = map (top_of boxes) (range_with_len 0 (length boxes + 1))

-- those of the boxes of a plan
abbrev pub tops_of : PlanFields → List ℕ
tops_of plan = tops_by plan.boxes

-- boxes of a line: not too many, and each with few places
pub record AreFew (all : List BoxFields) : Type 0 where
  pub boxes : length all ≤ 64
  pub places : All (λ box_plan. length box_plan.places ≤ 64) all

-- the top of a box
abbrev pub top_at : List ℕ → ℕ → ℕ
top_at tops b = slice_index tops b

-- the level of a place
abbrev pub level_at : List ℕ → ℕ → ℕ → ℕ
level_at tops b place = top_at tops b + 14 * place + 11

-- where a box ends
abbrev pub foot_at : List ℕ → ℕ → ℕ
foot_at tops b = top_at tops (b + 1) - 100

-- the edge of a box at which a train leaves it on an outgoing line
abbrev pub leaving_edge : List ℕ → ℕ → Way → ℕ
leaving_edge tops b Up = top_at tops b
leaving_edge tops b Down = foot_at tops b

-- the edge at which one comes on an incoming line
abbrev pub coming_edge : List ℕ → ℕ → Way → ℕ
coming_edge tops b Up = foot_at tops b
coming_edge tops b Down = top_at tops b

-- the top of the bars of the instrument that a box works for an incoming line: on the side from which that comes
abbrev pub bars_at : List ℕ → ℕ → Way → ℕ
bars_at tops b Up = foot_at tops b + 6
bars_at tops b Down = top_at tops b - 16

-- the level of a portion left on that line
abbrev pub portion_at : List ℕ → ℕ → Way → ℕ
portion_at tops b Up = foot_at tops b + 28
portion_at tops b Down = top_at tops b - 28

-- where the graph ends below
abbrev pub bottom_of : PlanFields → List ℕ → ℕ
bottom_of plan tops = top_at tops (length plan.boxes) - 100

-- the height of a picture
abbrev pub height : PlanFields → List ℕ → ℕ
height plan tops = bottom_of plan tops + 140

-- no picture is higher than numbers reach
abbrev pub AreLow : List ℕ → Type 0
AreLow tops = All (λ top. top < 2 ^ 40) tops
