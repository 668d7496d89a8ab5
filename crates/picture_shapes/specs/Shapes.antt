-- The shapes of a picture, as they are written.
use Rattle.std.specs.Prelude.{ℕ, List, [], ◌∷◌, ◌++◌, codes, decimal}
use Rattle.mark_up.specs.declared.attributes.Name.TheVariants as names
use Rattle.mark_up.specs.declared.tags.EmptyTag.TheVariants as empty
use Rattle.mark_up.specs.declared.tags.Tag.TheVariants as tags
use Rattle.mark_up.specs.Attributes.{ValueFields as Value}
use Rattle.mark_up.specs.Documents.{empty_tag, end_tag, start_tag}
use Rattle.mark_up.specs.Escapes.{escaped}
use Rattle.picture_shapes.specs.declared.shapes.Point.{Point}

-- a rectangle of a class, with its left top corner there
unfoldable pub rect_text : List ℕ → Point → ℕ → ℕ → List ℕ
rect_text class corner width height = empty_tag empty.Rect
    ((names.Class, Value.Text class) ∷ (names.X, Value.Number corner.x) ∷ (names.Y, Value.Number corner.y)
    ∷ (names.Width, Value.Number width) ∷ (names.Height, Value.Number height) ∷ [])

-- a line of a class from one point to another
unfoldable pub line_text : List ℕ → Point → Point → List ℕ
line_text class from to = empty_tag empty.Line
    ((names.Class, Value.Text class) ∷ (names.FromX, Value.Number from.x) ∷ (names.FromY, Value.Number from.y)
    ∷ (names.ToX, Value.Number to.x) ∷ (names.ToY, Value.Number to.y) ∷ [])

-- a closed figure of a class, with its corners as a text
unfoldable pub polygon_text : List ℕ → List ℕ → List ℕ
polygon_text class corners =
    empty_tag empty.Polygon ((names.Class, Value.Text class) ∷ (names.Points, Value.Text corners) ∷ [])

-- words of a class at a point
unfoldable pub words_text : List ℕ → Point → List ℕ → List ℕ
words_text class at said = start_tag tags.Text
    ((names.Class, Value.Text class) ∷ (names.X, Value.Number at.x) ∷ (names.Y, Value.Number at.y) ∷ [])
    ++ escaped said ++ end_tag tags.Text

-- a number of a class at a point
unfoldable pub number_text : List ℕ → Point → ℕ → List ℕ
number_text class at number = words_text class at (decimal number)

-- the turn by which words at a point are read upwards
unfoldable pub turn_text : Point → List ℕ
turn_text at = codes "translate(" ++ decimal at.x ++ codes " " ++ decimal at.y ++ codes ") rotate(-90)"

-- words of a class that are read from a point upwards
unfoldable pub upright_text : List ℕ → Point → List ℕ → List ℕ
upright_text class at said =
    start_tag tags.Text ((names.Class, Value.Text class) ∷ (names.Transform, Value.Text (turn_text at)) ∷ [])
    ++ escaped said ++ end_tag tags.Text

-- a group of shapes that is told as one, by a name, begins
unfoldable pub group_start : List ℕ → List ℕ
group_start name = start_tag tags.Group
    ((names.Role, Value.Text (codes "img")) ∷ (names.Label, Value.Text name) ∷ [])
    ++ (start_tag tags.Title [] ++ escaped name ++ end_tag tags.Title)
