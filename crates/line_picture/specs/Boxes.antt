-- The things of a box, as they are written.
use Rattle.std.specs.Prelude.{ℕ, ◌+◌, ◌-◌, Bool, true, false, List, [], ◌∷◌, ◌++◌, Option, Some, None, codes}
use Rattle.line_plan.specs.Frames.{BoxFields}
use Rattle.line_plan.specs.Plans.{PlanFields}
use Rattle.line_plan.specs.declared.frame.Kind.{Kind}
use Rattle.line_plan.specs.declared.frame.Kind.TheVariants as kinds
use Rattle.line_plan.specs.declared.signal.To.{To}
use Rattle.line_scene.specs.declared.walk.Spot.{Spot}
use Rattle.mark_up.specs.declared.tags.Tag.TheVariants as tags
use Rattle.mark_up.specs.Documents.{end_tag}
use Rattle.picture_shapes.specs.declared.shapes.Point.{Point}
use Rattle.picture_shapes.specs.Shapes.{group_start, line_text, number_text, rect_text, words_text}
use Rattle.line_picture.specs.Places.{LayoutFields, arm_at, foot_at, lever_at, point, spot_at, top_at}
use Rattle.line_picture.specs.Words.{arm_name, arm_words, lever_words, place_name, place_words, train_name}

-- ---- places

-- a road of this length, with the arrow head of the way in which trains run on it
unfoldable pub road_text : Point → ℕ → List ℕ
road_text at length =
    rect_text (codes "road") at length 4
    ++ line_text (codes "tip") (point (at.x + length - 8) (at.y - 4)) (point (at.x + length) (at.y + 2))
    ++ line_text (codes "tip") (point (at.x + length - 8) (at.y + 8)) (point (at.x + length) (at.y + 2))

-- a train on a road, with words on it
unfoldable pub block_text : Point → List ℕ → List ℕ
block_text at words =
    rect_text (codes "block") at 162 20 ++ words_text (codes "train") (point (at.x + 81) (at.y + 14)) words

-- the train that stands at a place, if one does
abbrev pub standing_block : PlanFields → Point → Option ℕ → List ℕ
standing_block plan at None = []
standing_block plan at (Some train) = block_text at (train_name plan train)

-- the shapes of a place with this name at a point
unfoldable pub place_shapes : PlanFields → Point → List ℕ → Option ℕ → List ℕ
place_shapes plan at name train =
    words_text (codes "place") (point at.x (at.y + 8)) name ++ road_text (point at.x (at.y + 22)) 204
    ++ standing_block plan (point (at.x + 8) (at.y + 14)) train

-- a place of box b at its spot
unfoldable pub place_text : PlanFields → LayoutFields → ℕ → ℕ → Spot → Option ℕ → List ℕ
place_text plan layout b place spot train =
    group_start (place_words plan b place train)
    ++ place_shapes plan (spot_at layout b spot) (place_name plan b place) train ++ end_tag tags.Group

-- ---- arms

-- an arm on its post: level where it is on, inclined where it is off
abbrev pub arm_shape : Point → Bool → List ℕ
arm_shape at true = line_text (codes "off") (point (at.x + 8) (at.y + 3)) (point (at.x + 24) (at.y + 14))
arm_shape at false = line_text (codes "on") (point (at.x + 8) (at.y + 3)) (point (at.x + 28) (at.y + 3))

-- the shapes of an arm at a point, with words
unfoldable pub arm_shapes : Point → Bool → List ℕ → List ℕ
arm_shapes at off words =
    line_text (codes "post") (point (at.x + 8) at.y) (point (at.x + 8) (at.y + 16)) ++ arm_shape at off
    ++ words_text (codes "arm") (point (at.x + 34) (at.y + 11)) words

-- an arm of box b on its post
unfoldable pub arm_text : PlanFields → LayoutFields → ℕ → ℕ → Spot → ℕ → To → Bool → List ℕ
arm_text plan layout b lever spot rank to off =
    group_start (arm_name plan b (arm_words plan b lever to off))
    ++ arm_shapes (arm_at layout b spot rank) off (arm_words plan b lever to off) ++ end_tag tags.Group

-- ---- levers

-- the class of a lever's body, by its kind
abbrev pub body_class : Kind → List ℕ
body_class kinds.Signal = codes "lever stop"
body_class kinds.Points = codes "lever points"
body_class kinds.Lock = codes "lever lock"
body_class kinds.Distant = codes "lever distant"
body_class kinds.Spare = codes "lever spare"

-- its letter, by which the kind is known without its colour, and the class of that
abbrev pub kind_letter : Kind → List ℕ
kind_letter kinds.Signal = codes "S"
kind_letter kinds.Points = codes "P"
kind_letter kinds.Lock = codes "L"
kind_letter kinds.Distant = codes "D"
kind_letter kinds.Spare = []

abbrev pub letter_class : Kind → List ℕ
letter_class kinds.Signal = codes "letter bright"
letter_class kinds.Points = codes "letter bright"
letter_class kinds.Lock = codes "letter bright"
letter_class kinds.Distant = codes "letter dark"
letter_class kinds.Spare = codes "letter dark"

-- how far down a lever stands: a reversed one is pulled down
abbrev pub drop_of : Bool → ℕ
drop_of true = 28
drop_of false = 14

-- the shapes of a lever at a point
unfoldable pub lever_shapes : ℕ → Kind → ℕ → Point → List ℕ
lever_shapes number kind down at =
    number_text (codes "number") (point (at.x + 13) (at.y + 10)) number
    ++ rect_text (codes "slot") (point (at.x + 4) (at.y + 14)) 18 28
    ++ rect_text (body_class kind) (point (at.x + 4) (at.y + down)) 18 14
    ++ words_text (letter_class kind) (point (at.x + 13) (at.y + down + 11)) (kind_letter kind)

-- a lever of box b
unfoldable pub lever_text : PlanFields → LayoutFields → ℕ → ℕ → Kind → Bool → List ℕ
lever_text plan layout b number kind reversed =
    group_start (lever_words plan b number kind reversed)
    ++ lever_shapes number kind (drop_of reversed) (lever_at layout b number) ++ end_tag tags.Group

-- ---- boxes

-- box b with its name, without its things
unfoldable pub box_text : LayoutFields → ℕ → BoxFields → List ℕ
box_text layout b box_plan =
    rect_text (codes "box") (point 16 (top_at layout b)) 1068 (foot_at layout b - top_at layout b)
    ++ words_text (codes "name") (point 28 (top_at layout b + 22)) box_plan.name

-- these boxes, which have the numbers from b on
abbrev pub boxes_text : LayoutFields → ℕ → List BoxFields → List ℕ
boxes_text layout b [] = []
boxes_text layout b (box_plan ∷ boxes) = box_text layout b box_plan ++ boxes_text layout (b + 1) boxes
