-- The lines of trains, as they are written.
use Rattle.std.specs.Prelude.{ℕ, ◌+◌, ◌-◌, ◌%◌, ◌==◌, Bool, true, false, ◌&&◌, List, [], ◌∷◌, ◌++◌, Option, Some, None}
use Rattle.std.specs.Prelude.{codes, decimal, if◌then◌else◌}
use Rattle.std.specs.List.{flat_map}
use Rattle.block_words.specs.declared.Way.{Way}
use Rattle.line_plan.specs.Frames.{same_way}
use Rattle.line_plan.specs.Plans.{PlanFields}
use Rattle.mark_up.specs.declared.attributes.Name.TheVariants as names
use Rattle.mark_up.specs.declared.tags.EmptyTag.TheVariants as empty
use Rattle.mark_up.specs.declared.tags.Tag.TheVariants as tags
use Rattle.mark_up.specs.Attributes.{ValueFields as Value}
use Rattle.mark_up.specs.Documents.{empty_tag, end_tag}
use Rattle.graph_scene.specs.Moments.{AxisFields as Axis}
use Rattle.graph_scene.specs.declared.deeds.Deed.{Deed}
use Rattle.graph_scene.specs.declared.deeds.Deed.TheVariants as deeds
use Rattle.graph_scene.specs.declared.deeds.TrainDeed.{TrainDeed}
use Rattle.graph_scene.specs.declared.lines.TrainLine.{TrainLine}
use Rattle.picture_shapes.specs.declared.shapes.Point.{Point}
use Rattle.picture_shapes.specs.Shapes.{group_start, line_text, polygon_text, rect_text, words_text}
use Rattle.graph_scene.specs.Words.{overrun_words, train_name}
use Rattle.graph_picture.specs.Places.{coming_edge, end_at, entry_at, leaving_edge, level_at, point, portion_at}
use Rattle.graph_picture.specs.Places.{right_end}

-- ---- the line

-- a corner of a line or a figure
unfoldable pub corner_text : Point → List ℕ
corner_text at = codes " " ++ decimal at.x ++ codes "," ++ decimal at.y

-- the levels that a train's line has at a deed: where the train stands before it, and after it; on a plain line it
-- stands at no place, and leaves its box and comes to the next by their edges
abbrev pub levels_by : List ℕ → ℕ → Deed → List ℕ
levels_by tops b (deeds.Brought place) = level_at tops b place ∷ []
levels_by tops b (deeds.Passed from to at_danger) = level_at tops b from ∷ level_at tops b to ∷ []
levels_by tops b (deeds.Entered from way at_danger) = level_at tops b from ∷ leaving_edge tops b way ∷ []
levels_by tops b (deeds.Away from at_danger) = level_at tops b from ∷ []
levels_by tops b (deeds.Berthed place way) = coming_edge tops b way ∷ level_at tops b place ∷ []
levels_by tops b (deeds.PartBerthed place way) = coming_edge tops b way ∷ level_at tops b place ∷ []
levels_by tops b (deeds.Cleared way) = []

-- the corners of a train's line at a deed: a stay is level from the deed before to this one
abbrev pub corners_at : List ℕ → Axis → TrainDeed → List ℕ
corners_at tops axis its =
    flat_map (λ y. corner_text (point (entry_at axis its.entry) y)) (levels_by tops its.box_no its.deed)

-- the level at which a train stands after a deed, if it stands, by that at which it stood before it
abbrev pub level_after : List ℕ → ℕ → Option ℕ → Deed → Option ℕ
level_after tops b before (deeds.Brought place) = Some (level_at tops b place)
level_after tops b before (deeds.Passed from to at_danger) = Some (level_at tops b to)
level_after tops b before (deeds.Entered from way at_danger) = None
level_after tops b before (deeds.Away from at_danger) = None
level_after tops b before (deeds.Berthed place way) = Some (level_at tops b place)
level_after tops b before (deeds.PartBerthed place way) = Some (level_at tops b place)
level_after tops b before (deeds.Cleared way) = before

-- the level at which it stands after these deeds
abbrev pub last_level : List ℕ → Option ℕ → List TrainDeed → Option ℕ
last_level tops before [] = before
last_level tops before (its ∷ later) = last_level tops (level_after tops its.box_no before its.deed) later

-- a train that stands at the end stands there to the end of the graph
abbrev pub stay_text : Axis → Option ℕ → List ℕ
stay_text axis None = []
stay_text axis (Some y) = corner_text (point (right_end axis) y)

abbrev pub corners_text : List ℕ → Axis → List TrainDeed → List ℕ
corners_text tops axis its = flat_map (corners_at tops axis) its ++ stay_text axis (last_level tops None its)

-- the class of a train's line: six colours in turn
unfoldable pub line_class : ℕ → List ℕ
line_class train = codes "train t" ++ decimal (train % 6)

-- a line with these corners
unfoldable pub polyline_text : List ℕ → List ℕ → List ℕ
polyline_text class corners =
    empty_tag empty.Polyline ((names.Class, Value.Text class) ∷ (names.Points, Value.Text corners) ∷ [])

-- ---- the marks of deeds

-- the name of a train, at the beginning of a stay
abbrev pub name_text : List ℕ → Point → List ℕ
name_text name at = words_text (codes "label") (point (at.x + 7) (at.y - 4)) name

-- a small square where a train comes or goes
unfoldable pub stop_text : Point → List ℕ
stop_text at = rect_text (codes "stop") (point (at.x - 2) (at.y - 2)) 5 5

-- a train that goes away: an arrow head off the line
unfoldable pub away_text : Point → List ℕ
away_text at =
    polygon_text (codes "stop")
    (corner_text (point at.x (at.y - 5)) ++ corner_text (point (at.x + 6) at.y) ++ corner_text (point at.x (at.y + 5)))

-- words of warning beside a mark
abbrev pub warning_text : Point → List ℕ → List ℕ
warning_text at words = words_text (codes "warning") (point (at.x + 7) (at.y - 4)) words

-- a signal passed at danger: a triangle, with the word
unfoldable pub danger_text : Point → List ℕ
danger_text at =
    polygon_text (codes "danger")
    (corner_text (point at.x (at.y - 6)) ++ corner_text (point (at.x + 6) (at.y + 4))
    ++ corner_text (point (at.x - 6) (at.y + 4)))
    ++ warning_text at (overrun_words true)

-- a divided train: a diamond, with its name and the word
unfoldable pub divided_text : List ℕ → Point → List ℕ
divided_text name at =
    polygon_text (codes "danger")
    (corner_text (point at.x (at.y - 6)) ++ corner_text (point (at.x + 6) at.y)
    ++ corner_text (point at.x (at.y + 6)) ++ corner_text (point (at.x - 6) at.y))
    ++ warning_text at (name ++ codes " divided")

-- a danger mark, where there was an overrun
abbrev pub overrun_text : Bool → Point → List ℕ
overrun_text at_danger at = if at_danger then danger_text at else []

-- the entry by which the portion left on a line at box b is cleared away, if it is by one of these deeds
abbrev pub clears : ℕ → Way → TrainDeed → Deed → Bool
clears b way its (deeds.Cleared line) = its.box_no == b && same_way line way
clears b way its deed = false

abbrev pub cleared_by : ℕ → Way → List TrainDeed → Option ℕ
cleared_by b way [] = None
cleared_by b way (its ∷ later) =
    if clears b way its its.deed then Some its.entry else cleared_by b way later

-- a left portion, from one deed to another or to the end
unfoldable pub portion_text : List ℕ → Axis → ℕ → ℕ → Way → Option ℕ → List ℕ
portion_text tops axis from b way to =
    line_text (codes "portion") (point (entry_at axis from) (portion_at tops b way))
    (point (end_at axis to) (portion_at tops b way))
    ++ words_text (codes "left") (point (entry_at axis from + 4) (portion_at tops b way - 4)) (codes "portion")

-- where a train stands at a box as an entry is made
abbrev pub stand_at : List ℕ → Axis → ℕ → ℕ → ℕ → Point
stand_at tops axis entry b place = point (entry_at axis entry) (level_at tops b place)

-- a train that comes to a stand, with its name
unfoldable pub coming_text : List ℕ → Point → List ℕ
coming_text name at = stop_text at ++ name_text name at

-- a train that goes, past a signal that may be at danger
unfoldable pub going_text : Bool → Point → List ℕ
going_text at_danger at = stop_text at ++ overrun_text at_danger at

unfoldable pub leaving_text : Bool → Point → List ℕ
leaving_text at_danger at = away_text at ++ overrun_text at_danger at

-- a train that comes to a stand divided, with its name and the portion that it left
unfoldable pub parting_text : List ℕ → Axis → List ℕ → TrainDeed → ℕ → Way → List TrainDeed → List ℕ
parting_text tops axis name its place way later =
    divided_text name (stand_at tops axis its.entry its.box_no place)
    ++ portion_text tops axis its.entry its.box_no way (cleared_by its.box_no way later)

-- the marks of a deed, before these later ones of the same train
abbrev pub deed_text : List ℕ → Axis → List ℕ → TrainDeed → Deed → List TrainDeed → List ℕ
deed_text tops axis name its (deeds.Brought place) later =
    coming_text name (stand_at tops axis its.entry its.box_no place)
deed_text tops axis name its (deeds.Passed from to at_danger) later =
    overrun_text at_danger (stand_at tops axis its.entry its.box_no from)
deed_text tops axis name its (deeds.Entered from way at_danger) later =
    going_text at_danger (stand_at tops axis its.entry its.box_no from)
deed_text tops axis name its (deeds.Away from at_danger) later =
    leaving_text at_danger (stand_at tops axis its.entry its.box_no from)
deed_text tops axis name its (deeds.Berthed place way) later =
    coming_text name (stand_at tops axis its.entry its.box_no place)
deed_text tops axis name its (deeds.PartBerthed place way) later = parting_text tops axis name its place way later
deed_text tops axis name its (deeds.Cleared way) later = []

-- the marks of deeds, in order
abbrev pub deeds_text : List ℕ → Axis → List ℕ → List TrainDeed → List ℕ
deeds_text tops axis name [] = []
deeds_text tops axis name (its ∷ later) =
    deed_text tops axis name its its.deed later ++ deeds_text tops axis name later

-- ---- trains

-- the name by which a train is told
unfoldable pub line_name : List ℕ → List ℕ
line_name name = codes "train " ++ name

-- the line of a train with this name, with the marks of its deeds
unfoldable pub train_text : List ℕ → Axis → List ℕ → TrainLine → List ℕ
train_text tops axis name line =
    group_start (line_name name) ++ polyline_text (line_class line.train) (corners_text tops axis line.deeds)
    ++ deeds_text tops axis name line.deeds ++ end_tag tags.Group

-- each line once, with its train's name
abbrev pub lines_text : PlanFields → List ℕ → Axis → List TrainLine → List ℕ
lines_text plan tops axis lines = flat_map (λ line. train_text tops axis (train_name plan line.train) line) lines
