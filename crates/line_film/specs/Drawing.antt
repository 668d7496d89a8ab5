-- The line as it is drawn, and what each entry changes of that.
use Rattle.std.specs.Prelude.{ℕ, ◌-◌, List, [], ◌∷◌, ◌++◌, codes, decimal, length}
use Rattle.std.specs.List.{flat_map}
use Rattle.line_plan.specs.Plans.{PlanFields}
use Rattle.mark_up.specs.declared.attributes.Name.TheVariants as names
use Rattle.mark_up.specs.declared.tags.Tag.TheVariants as tags
use Rattle.mark_up.specs.Attributes.{ValueFields as Value}
use Rattle.mark_up.specs.Documents.{end_tag, start_tag}
use Rattle.mark_up.specs.Escapes.{escaped}
use Rattle.picture_shapes.specs.Shapes.{rect_text}
use Rattle.line_picture.specs.Pictures.{ground_text, key_text, style_text, thing_text}
use Rattle.line_picture.specs.Places.{LayoutFields, height, point}
use Rattle.line_film.specs.declared.changes.Change.{Change}

-- ---- things

-- a thing as the picture of a line draws it, in a group that has its number
unfoldable pub change_html : PlanFields → LayoutFields → Change → List ℕ
change_html plan layout change =
    start_tag tags.Group ((names.Class, Value.Number change.slot) ∷ []) ++ thing_text plan layout change.thing
    ++ end_tag tags.Group

-- these things, each once, in order
abbrev pub changes_html : PlanFields → LayoutFields → List Change → List ℕ
changes_html plan layout changes = flat_map (change_html plan layout) changes

-- what an entry changes, in a group on a line of its own
unfoldable pub frame_html : PlanFields → LayoutFields → List Change → List ℕ
frame_html plan layout frame =
    escaped (codes "\n") ++ start_tag tags.Group [] ++ changes_html plan layout frame ++ end_tag tags.Group

-- the same of each entry, in order
abbrev pub frames_html : PlanFields → LayoutFields → List (List Change) → List ℕ
frames_html plan layout frames = flat_map (frame_html plan layout) frames

-- ---- the picture

-- the part of a picture that is seen: all below its head
unfoldable pub view_text : ℕ → List ℕ
view_text high = codes "0 64 1100 " ++ decimal high

-- the picture begins, of which so much is seen, under a name
unfoldable pub picture_start : ℕ → List ℕ → List ℕ → List ℕ
picture_start high name view = start_tag tags.Svg
    ((names.Width, Value.Number 1100) ∷ (names.Height, Value.Number high) ∷ (names.ViewBox, Value.Text view)
    ∷ (names.Role, Value.Text (codes "group")) ∷ (names.Label, Value.Text name) ∷ [])

-- what is seen in each state: the background, the key, and the boxes and roads
unfoldable pub seen_html : PlanFields → LayoutFields → ℕ → List ℕ
seen_html plan layout high =
    style_text ++ rect_text (codes "background") (point 0 0) 1100 high ++ key_text high ++ ground_text plan layout

-- all things as they are seen before the first entry
unfoldable pub first_html : PlanFields → LayoutFields → List Change → List ℕ
first_html plan layout first =
    start_tag tags.Group ((names.Id, Value.Text (codes "line")) ∷ []) ++ changes_html plan layout first
    ++ end_tag tags.Group

-- what the entries change, where it isn't seen
unfoldable pub inert_html : PlanFields → LayoutFields → List (List Change) → List ℕ
inert_html plan layout frames =
    start_tag tags.Definitions ((names.Id, Value.Text (codes "changes")) ∷ []) ++ frames_html plan layout frames
    ++ end_tag tags.Definitions

-- the picture under a name: the line as it is seen before the first entry, and what each entry changes
unfoldable pub picture_html : PlanFields → LayoutFields → List ℕ → List Change → List (List Change) → List ℕ
picture_html plan layout name first frames =
    picture_start (height layout (length plan.boxes) - 64) name (view_text (height layout (length plan.boxes) - 64))
    ++ seen_html plan layout (height layout (length plan.boxes)) ++ first_html plan layout first
    ++ inert_html plan layout frames ++ end_tag tags.Svg
