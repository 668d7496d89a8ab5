-- The boxes of a train graph, and the bars of their instruments, as they are written.
use Rattle.std.specs.Prelude.{ℕ, ◌+◌, ◌-◌, List, [], ◌∷◌, ◌++◌, codes}
use Rattle.std.specs.List.{flat_map}
use Rattle.block_words.specs.declared.Position.{Position}
use Rattle.block_words.specs.declared.Position.TheVariants as shows
use Rattle.line_plan.specs.Frames.{BoxFields}
use Rattle.line_plan.specs.Plans.{PlanFields, box_name}
use Rattle.line_plan.specs.Ways.{way_word}
use Rattle.mark_up.specs.declared.tags.Tag.TheVariants as tags
use Rattle.mark_up.specs.Documents.{end_tag}
use Rattle.graph_scene.specs.Moments.{AxisFields as Axis}
use Rattle.graph_scene.specs.declared.bars.Bar.{Bar}
use Rattle.picture_shapes.specs.Shapes.{group_start, line_text, rect_text, words_text}
use Rattle.graph_picture.specs.Places.{bars_at, end_at, entry_at, height_of, point}

-- the level of a place, with its name
unfoldable pub place_text : ℕ → ℕ → List ℕ → List ℕ
place_text right y name =
    words_text (codes "place") (point 192 (y + 3)) name ++ line_text (codes "level") (point 200 y) (point right y)

-- the levels of the places of a box, the first at this one
abbrev pub places_text : ℕ → ℕ → List (List ℕ) → List ℕ
places_text right y [] = []
places_text right y (name ∷ names) = place_text right y name ++ places_text right (y + 14) names

-- a box with this top, from the left end of the graph to the right
unfoldable pub box_text : ℕ → ℕ → BoxFields → List ℕ
box_text right top box_plan =
    rect_text (codes "box") (point 200 top) (right - 200) (height_of box_plan)
    ++ words_text (codes "name") (point 192 (top - 4)) box_plan.name
    ++ places_text right (top + 11) box_plan.places

-- the boxes, the first with this top
abbrev pub boxes_text : ℕ → ℕ → List BoxFields → List ℕ
boxes_text right top [] = []
boxes_text right top (box_plan ∷ boxes) =
    box_text right top box_plan ++ boxes_text right (top + height_of box_plan + 100) boxes

-- the names of boxes over them once more, the first with this top
abbrev pub names_text : ℕ → ℕ → List BoxFields → List ℕ
names_text x top [] = []
names_text x top (box_plan ∷ boxes) =
    words_text (codes "again") (point (x + 4) (top - 3)) box_plan.name
    ++ names_text x (top + height_of box_plan + 100) boxes

-- ---- bars

-- what a bar shows, in words and as a class
abbrev pub shown_word : Position → List ℕ
shown_word shows.Normal = codes "Normal"
shown_word shows.LineClear = codes "Line Clear"
shown_word shows.TrainOnLine = codes "Train on Line"

abbrev pub bar_class : Position → List ℕ
bar_class shows.Normal = codes "normal"
bar_class shows.LineClear = codes "clear"
bar_class shows.TrainOnLine = codes "occupied"

-- how thick a bar is: one of Line Clear is the thinner
abbrev pub thickness : Position → ℕ
thickness shows.Normal = 1
thickness shows.LineClear = 4
thickness shows.TrainOnLine = 6

-- how far below the top of the bars it lies, so that the bars of an instrument have one middle
abbrev pub sunk : Position → ℕ
sunk shows.Normal = 3
sunk shows.LineClear = 1
sunk shows.TrainOnLine = 0

-- the name by which a bar is told
unfoldable pub bar_name : PlanFields → Bar → List ℕ
bar_name plan bar =
    shown_word bar.position ++ codes ", " ++ way_word bar.way ++ codes " line at " ++ box_name plan bar.box_no

-- a bar, beside the box that works its instrument
unfoldable pub bar_text : PlanFields → List ℕ → Axis → Bar → List ℕ
bar_text plan tops axis bar =
    group_start (bar_name plan bar)
    ++ rect_text (bar_class bar.position)
    (point (entry_at axis bar.from) (bars_at tops bar.box_no bar.way + sunk bar.position))
    (end_at axis bar.to - entry_at axis bar.from) (thickness bar.position)
    ++ end_tag tags.Group

-- each bar once
abbrev pub bars_text : PlanFields → List ℕ → Axis → List Bar → List ℕ
bars_text plan tops axis bars = flat_map (bar_text plan tops axis) bars
