-- The levers of a picture, as they are written.
use Rattle.std.specs.Prelude.{ℕ, ◌+◌, List, [], ◌∷◌, ◌++◌, Option, Some, None, codes, decimal, length, max, min}
use Rattle.std.specs.Prelude.{slice_get, unwrap_or}
use Rattle.std.specs.List.{flat_map}
use Rattle.line_plan.specs.declared.frame.Kind.{Kind}
use Rattle.line_plan.specs.declared.frame.Kind.TheVariants as kinds
use Rattle.line_plan.specs.declared.frame.Lever.{Lever}
use Rattle.line_plan.specs.declared.signal.Signal.{Signal}
use Rattle.line_plan.specs.declared.signal.To.{To}
use Rattle.line_plan.specs.declared.signal.To.TheVariants as ends
use Rattle.line_plan.specs.Frames.{BoxFields, signal_of}
use Rattle.line_plan.specs.Ways.{way_word}
use Rattle.mark_up.specs.declared.tags.Tag.TheVariants as tags
use Rattle.mark_up.specs.Documents.{end_tag}
use Rattle.picture_shapes.specs.declared.shapes.Point.{Point}
use Rattle.frame_picture.specs.declared.places.Layout.{Layout}
use Rattle.frame_picture.specs.Places.{column_of, levers_top, point}
use Rattle.picture_shapes.specs.Shapes.{group_start, number_text, rect_text, upright_text, words_text}

-- ---- what a lever works

-- the name of a place; nothing where the box has no such place
abbrev pub place_name : BoxFields → ℕ → List ℕ
place_name box_plan place = unwrap_or (slice_get box_plan.places place) []

-- from where a signal leads, and where to
abbrev pub route_text : BoxFields → List ℕ → To → List ℕ
route_text box_plan from (ends.Place place) = from ++ codes " to " ++ place_name box_plan place
route_text box_plan from (ends.Section way) = codes "starter " ++ way_word way ++ codes ", " ++ from
route_text box_plan from ends.Away = from ++ codes " away"

-- what the lever of a signal works, where the box has that signal
abbrev pub signal_text : BoxFields → Option Signal → List ℕ
signal_text box_plan None = codes "signal"
signal_text box_plan (Some signal) = route_text box_plan (place_name box_plan signal.from) signal.to

-- what a lever works
abbrev pub works_of : BoxFields → ℕ → Kind → List ℕ
works_of box_plan number kinds.Signal = signal_text box_plan (signal_of box_plan number)
works_of box_plan number kinds.Distant = codes "distant"
works_of box_plan number kinds.Points = codes "points"
works_of box_plan number kinds.Lock = codes "facing point lock"
works_of box_plan number kinds.Spare = codes "spare"

unfoldable pub works : BoxFields → Lever → List ℕ
works box_plan lever = works_of box_plan lever.number lever.kind

-- how many characters the longest words have of what these levers work; 200 at most
abbrev pub longest_words : BoxFields → List Lever → ℕ
longest_words box_plan [] = 0
longest_words box_plan (lever ∷ levers) =
    max (min (length (works box_plan lever)) 200) (longest_words box_plan levers)

-- ---- how a kind is known

-- by its letter, without its colour
abbrev pub kind_letter : Kind → List ℕ
kind_letter kinds.Signal = codes "S"
kind_letter kinds.Points = codes "P"
kind_letter kinds.Lock = codes "L"
kind_letter kinds.Distant = codes "D"
kind_letter kinds.Spare = []

-- by the colour of the lever: the class that has it
abbrev pub body_class : Kind → List ℕ
body_class kinds.Signal = codes "lever stop"
body_class kinds.Points = codes "lever points"
body_class kinds.Lock = codes "lever lock"
body_class kinds.Distant = codes "lever distant"
body_class kinds.Spare = codes "lever spare"

-- a letter that shows on that colour
abbrev pub letter_class : Kind → List ℕ
letter_class kinds.Signal = codes "mid bright"
letter_class kinds.Points = codes "mid bright"
letter_class kinds.Lock = codes "mid bright"
letter_class kinds.Distant = codes "mid dark"
letter_class kinds.Spare = codes "mid dark"

-- ---- levers

-- the name by which a lever is told
abbrev pub lever_name : ℕ → List ℕ → List ℕ
lever_name number words = codes "lever " ++ decimal number ++ codes ": " ++ words

-- the shapes of a lever whose column begins at a corner: what it works, its handle, its body, and the plate with its
-- number
unfoldable pub lever_shapes : Lever → List ℕ → Point → List ℕ
lever_shapes lever words corner =
    upright_text (codes "small") (point (corner.x + 21) corner.y) words
    ++ rect_text (codes "handle") (point (corner.x + 15) (corner.y + 8)) 6 30
    ++ rect_text (body_class lever.kind) (point (corner.x + 9) (corner.y + 34)) 18 86
    ++ rect_text (codes "plate") (point (corner.x + 5) (corner.y + 50)) 26 16
    ++ number_text (codes "mid dark") (point (corner.x + 18) (corner.y + 62)) lever.number
    ++ words_text (letter_class lever.kind) (point (corner.x + 18) (corner.y + 88)) (kind_letter lever.kind)

-- a lever in its column
unfoldable pub lever_text : BoxFields → Layout → Lever → List ℕ
lever_text box_plan layout lever =
    group_start (lever_name lever.number (works box_plan lever))
    ++ lever_shapes lever (works box_plan lever) (point (column_of lever.number) (levers_top layout))
    ++ end_tag tags.Group

-- each lever once, in order
abbrev pub levers_text : BoxFields → Layout → List Lever → List ℕ
levers_text box_plan layout levers = flat_map (lever_text box_plan layout) levers
