-- The things of a section, as they are written.
use Rattle.std.specs.Prelude.{ℕ, zero, suc, ◌+◌, Bool, true, false, ◌||◌, List, [], ◌∷◌, ◌++◌, Option, Some, None}
use Rattle.std.specs.Prelude.{codes, if◌then◌else◌, is_some}
use Rattle.block_words.specs.declared.Position.{Position}
use Rattle.block_words.specs.declared.Position.TheVariants as shows
use Rattle.block_words.specs.declared.Way.{Way}
use Rattle.block_words.specs.declared.Way.TheVariants.{Up, Down}
use Rattle.line_plan.specs.Plans.{PlanFields}
use Rattle.line_plan.specs.Sections.{section_berth, section_starter}
use Rattle.line_plan.specs.declared.section.Section.{Section}
use Rattle.mark_up.specs.declared.attributes.Name.TheVariants as names
use Rattle.mark_up.specs.declared.tags.EmptyTag.TheVariants as empty
use Rattle.mark_up.specs.declared.tags.Tag.TheVariants as tags
use Rattle.mark_up.specs.Attributes.{ValueFields as Value}
use Rattle.mark_up.specs.Documents.{empty_tag, end_tag}
use Rattle.picture_shapes.specs.declared.shapes.Point.{Point}
use Rattle.picture_shapes.specs.Shapes.{group_start, line_text, words_text}
use Rattle.line_picture.specs.Boxes.{block_text, road_text}
use Rattle.line_picture.specs.Places.{LayoutFields, point, section_at, train_at}
use Rattle.line_picture.specs.Words.{bell_words, instrument_words, on_line_words, section_words}
use Rattle.line_picture.specs.Words.{shown_word, train_words}

-- ---- the road

-- a section with its name and its road
unfoldable pub named_road : LayoutFields → ℕ → Way → List ℕ → List ℕ
named_road layout rear way words =
    words_text (codes "section") (point 28 (section_at layout rear way + 12)) words
    ++ road_text (point 404 (section_at layout rear way + 32)) 680

-- a section has a road where a starter leads into it, or a berth ends it
abbrev pub has_road : PlanFields → Section → Bool
has_road plan section = is_some (section_starter plan section) || is_some (section_berth plan section)

-- the road of a section, where it has one
abbrev pub section_text : PlanFields → LayoutFields → Section → List ℕ
section_text plan layout section =
    if has_road plan section
    then named_road layout section.rear section.way (section_words plan section.rear section.way)
    else []

-- the sections of so many pairs of neighbours
abbrev pub sections_text : PlanFields → LayoutFields → ℕ → List ℕ
sections_text plan layout zero = []
sections_text plan layout (suc pair) =
    sections_text plan layout pair ++ (section_text plan layout (record { rear = pair; way = Down })
    ++ section_text plan layout (record { rear = pair + 1; way = Up }))

-- ---- instruments

-- a circle of a class
unfoldable pub circle_text : List ℕ → Point → ℕ → List ℕ
circle_text class centre radius = empty_tag empty.Circle
    ((names.Class, Value.Text class) ∷ (names.CentreX, Value.Number centre.x) ∷ (names.CentreY, Value.Number centre.y)
    ∷ (names.Radius, Value.Number radius) ∷ [])

-- the class of an instrument
abbrev pub dial_class : Position → List ℕ
dial_class shows.Normal = codes "dial"
dial_class shows.LineClear = codes "dial clear"
dial_class shows.TrainOnLine = codes "dial occupied"

-- how far to the right its needle points: upright at Normal, to the left at Line Clear, to the right at Train on Line
abbrev pub needle_of : Position → ℕ
needle_of shows.Normal = 44
needle_of shows.LineClear = 35
needle_of shows.TrainOnLine = 53

-- the shapes of an instrument in a section with this top
unfoldable pub dial_shapes : ℕ → Position → List ℕ
dial_shapes top position =
    circle_text (dial_class position) (point 44 (top + 34)) 14
    ++ line_text (codes "needle") (point 44 (top + 40)) (point (needle_of position) (top + 24))
    ++ words_text (codes "shown") (point 66 (top + 38)) (shown_word position)

-- the instrument of a section
unfoldable pub instrument_text : PlanFields → LayoutFields → ℕ → Way → Position → List ℕ
instrument_text plan layout rear way position =
    group_start (instrument_words plan rear way position) ++ dial_shapes (section_at layout rear way) position
    ++ end_tag tags.Group

-- ---- bells and trains

-- words of a section that are told as they stand
unfoldable pub told_text : List ℕ → Point → List ℕ → List ℕ
told_text class at words = group_start words ++ words_text class at words ++ end_tag tags.Group

-- the code that stands unheard on a bell, if one does
abbrev pub bell_text : PlanFields → LayoutFields → ℕ → Way → Option ℕ → List ℕ
bell_text plan layout rear way None = []
bell_text plan layout rear way (Some code) =
    told_text (codes "bell") (point 156 (section_at layout rear way + 38)) (bell_words plan rear way code)

-- a train on a plain line, with these words on it
unfoldable pub train_text : PlanFields → LayoutFields → ℕ → Way → ℕ → List ℕ → List ℕ
train_text plan layout rear way behind words =
    group_start (on_line_words plan rear way words) ++ block_text (train_at layout rear way behind) words
    ++ end_tag tags.Group

-- the train that is so far behind the first on a plain line, if there is one
abbrev pub on_line_text : PlanFields → LayoutFields → ℕ → Way → ℕ → Option ℕ → Bool → List ℕ
on_line_text plan layout rear way behind None portion = []
on_line_text plan layout rear way behind (Some train) portion =
    train_text plan layout rear way behind (train_words plan train portion)
