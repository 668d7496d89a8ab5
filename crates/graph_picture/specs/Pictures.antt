-- A picture of a train graph, as it is written.
use Rattle.std.specs.Prelude.{ℕ, ◌+◌, ◌-◌, List, [], ◌∷◌, ◌++◌, codes, decimal, length}
use Rattle.line_plan.specs.Plans.{PlanFields, box_name}
use Rattle.mark_up.specs.declared.attributes.Name.TheVariants as names
use Rattle.mark_up.specs.Attributes.{ValueFields as Value}
use Rattle.mark_up.specs.Tags.{prolog}
use Rattle.mark_up.specs.declared.tags.Tag.TheVariants as tags
use Rattle.mark_up.specs.Documents.{end_tag, start_tag}
use Rattle.mark_up.specs.Escapes.{escaped}
use Rattle.graph_picture.specs.declared.key_drawing.TheConstants.{MARKS, WARNINGS}
use Rattle.graph_picture.specs.declared.picture.TheConstants.{STYLE}
use Rattle.graph_scene.specs.declared.scene.Scene.{Scene}
use Rattle.picture_shapes.specs.Shapes.{rect_text, words_text}
use Rattle.graph_picture.specs.Boxes.{bars_text, boxes_text}
use Rattle.graph_picture.specs.Places.{bottom_of, height, point, right_end, tops_of, width}
use Rattle.graph_picture.specs.Rulings.{ruled, rulings_text}
use Rattle.graph_picture.specs.Trains.{lines_text}

-- the name of a picture: of the line from its first box to its last
unfoldable pub picture_name : PlanFields → List ℕ
picture_name plan =
    codes "Train graph of the line from " ++ box_name plan 0 ++ codes " to "
    ++ box_name plan (length plan.boxes - 1)

-- how many trains there are
abbrev pub counts_text : Scene → List ℕ
counts_text scene = codes "trains: " ++ decimal (length scene.lines)

-- the title of a picture, and its style
unfoldable pub title_text : List ℕ → List ℕ
title_text name =
    (start_tag tags.Title [] ++ escaped name ++ end_tag tags.Title)
    ++ (start_tag tags.Style [] ++ escaped STYLE.now ++ end_tag tags.Style)

-- the background of a picture, and its head
unfoldable pub head_text : ℕ → ℕ → List ℕ → List ℕ → List ℕ
head_text wide high name counts =
    rect_text (codes "background") (point 0 0) wide high ++ words_text (codes "head") (point 16 34) name
    ++ words_text (codes "sub") (point 16 56) counts

-- the key of the bars
unfoldable pub bars_key : ℕ → List ℕ
bars_key y =
    rect_text (codes "clear") (point 16 (y + 2)) 40 4
    ++ words_text (codes "word") (point 64 (y + 9)) (codes "Line Clear")
    ++ rect_text (codes "occupied") (point 160 (y + 1)) 40 6
    ++ words_text (codes "word") (point 208 (y + 9)) (codes "Train on Line")

-- the key: the bars, and the marks of trains
unfoldable pub key_text : ℕ → List ℕ
key_text y =
    bars_key y ++ words_text (codes "word") (point 16 (y + 30)) MARKS.now
    ++ words_text (codes "word") (point 16 (y + 48)) WARNINGS.now

-- the graph: the boxes and the ruling, and over them the bars and the lines of trains
unfoldable pub graph_text : PlanFields → List ℕ → Scene → List ℕ
graph_text plan tops scene =
    boxes_text (right_end scene.axis) 130 plan.boxes
    ++ rulings_text plan.version plan.boxes (bottom_of plan tops) scene.axis (ruled plan.version scene.axis)
    ++ bars_text plan tops scene.axis scene.bars ++ lines_text plan tops scene.axis scene.lines

-- all that stands in a picture
unfoldable pub inner_text : PlanFields → List ℕ → Scene → List ℕ
inner_text plan tops scene =
    title_text (picture_name plan)
    ++ head_text (width scene.axis) (height plan tops) (picture_name plan) (counts_text scene)
    ++ graph_text plan tops scene ++ key_text (bottom_of plan tops + 70)

-- the part of the picture that is seen: all of it
unfoldable pub view_text : ℕ → ℕ → List ℕ
view_text wide high = codes "0 0 " ++ decimal wide ++ codes " " ++ decimal high

-- a picture of a width and a height begins, under a name and with a part that is seen
unfoldable pub begun_text : ℕ → ℕ → List ℕ → List ℕ → List ℕ
begun_text wide high name view = prolog tags.Svg ++ start_tag tags.Svg
    ((names.Namespace, Value.Text (codes "http://www.w3.org/2000/svg"))
    ∷ (names.Width, Value.Number wide) ∷ (names.Height, Value.Number high)
    ∷ (names.ViewBox, Value.Text view) ∷ (names.Role, Value.Text (codes "group"))
    ∷ (names.Label, Value.Text name) ∷ [])

-- the picture of a scene, with the boxes of its line from top to bottom
abbrev pub picture_text : PlanFields → Scene → List ℕ
picture_text plan scene =
    begun_text (width scene.axis) (height plan (tops_of plan)) (picture_name plan)
    (view_text (width scene.axis) (height plan (tops_of plan)))
    ++ inner_text plan (tops_of plan) scene ++ end_tag tags.Svg
