-- A picture of a line, as it is written.
use Rattle.std.specs.Prelude.{ℕ, ◌-◌, List, [], ◌∷◌, ◌++◌, codes, decimal, length}
use Rattle.std.specs.List.{flat_map}
use Rattle.line_plan.specs.Plans.{PlanFields}
use Rattle.line_scene.specs.declared.scene.Scene.{Scene}
use Rattle.line_scene.specs.declared.shown.Shown.{Shown}
use Rattle.line_scene.specs.declared.shown.Shown.TheVariants as shown
use Rattle.mark_up.specs.declared.attributes.Name.TheVariants as names
use Rattle.mark_up.specs.declared.tags.Tag.TheVariants as tags
use Rattle.mark_up.specs.Attributes.{ValueFields as Value}
use Rattle.mark_up.specs.Documents.{end_tag, start_tag}
use Rattle.mark_up.specs.Escapes.{escaped}
use Rattle.mark_up.specs.Tags.{prolog}
use Rattle.picture_shapes.specs.Shapes.{rect_text, words_text}
use Rattle.line_picture.specs.declared.picture.TheConstants.{ARMS, STYLE, TRAINS}
use Rattle.line_picture.specs.Boxes.{arm_text, boxes_text, lever_text, place_text}
use Rattle.line_picture.specs.Places.{LayoutFields, height, layout_of, point}
use Rattle.line_picture.specs.Sections.{bell_text, instrument_text, on_line_text, sections_text}
use Rattle.line_picture.specs.Words.{after_words, picture_name}

-- a thing of a line
abbrev pub thing_text : PlanFields → LayoutFields → Shown → List ℕ
thing_text plan layout (shown.Place b place spot train) = place_text plan layout b place spot train
thing_text plan layout (shown.Arm b lever spot rank to off) = arm_text plan layout b lever spot rank to off
thing_text plan layout (shown.Lever b number kind reversed) = lever_text plan layout b number kind reversed
thing_text plan layout (shown.Instrument rear way position) = instrument_text plan layout rear way position
thing_text plan layout (shown.Bell rear way unheard) = bell_text plan layout rear way unheard
thing_text plan layout (shown.OnLine rear way behind train portion) =
    on_line_text plan layout rear way behind train portion

-- each thing once, in order
abbrev pub things_text : PlanFields → LayoutFields → List Shown → List ℕ
things_text plan layout things = flat_map (thing_text plan layout) things

-- the style of a picture
unfoldable pub style_text : List ℕ
style_text = start_tag tags.Style [] ++ escaped STYLE.now ++ end_tag tags.Style

-- the title of a picture, and its style
unfoldable pub title_text : List ℕ → List ℕ
title_text name = (start_tag tags.Title [] ++ escaped name ++ end_tag tags.Title) ++ style_text

-- the key of a picture of this height, at its foot
unfoldable pub key_text : ℕ → List ℕ
key_text high =
    words_text (codes "key") (point 16 (high - 48)) TRAINS.now
    ++ words_text (codes "key") (point 16 (high - 28)) ARMS.now

-- the background of a picture, its head, and its key at the foot
unfoldable pub frame_text : ℕ → List ℕ → List ℕ → List ℕ
frame_text high name when =
    rect_text (codes "background") (point 0 0) 1100 high ++ words_text (codes "head") (point 16 34) name
    ++ words_text (codes "sub") (point 16 58) when ++ key_text high

-- the boxes, and the roads between them, without their things
unfoldable pub ground_text : PlanFields → LayoutFields → List ℕ
ground_text plan layout =
    boxes_text layout 0 plan.boxes ++ sections_text plan layout (length plan.boxes - 1)

-- the line: the boxes and the roads between them, and over them their things
unfoldable pub line_text : PlanFields → LayoutFields → List Shown → List ℕ
line_text plan layout things = ground_text plan layout ++ things_text plan layout things

-- all that stands in a picture
unfoldable pub inner_text : PlanFields → LayoutFields → List Shown → ℕ → List ℕ
inner_text plan layout things entries =
    title_text (picture_name plan (length plan.boxes - 1))
    ++ frame_text (height layout (length plan.boxes)) (picture_name plan (length plan.boxes - 1)) (after_words entries)
    ++ line_text plan layout things

-- the part of the picture that is seen: all of it
unfoldable pub view_text : ℕ → List ℕ
view_text high = codes "0 0 1100 " ++ decimal high

-- a picture of a height begins, under a name and with a part that is seen
unfoldable pub begun_text : ℕ → List ℕ → List ℕ → List ℕ
begun_text high name view = prolog tags.Svg ++ start_tag tags.Svg
    ((names.Namespace, Value.Text (codes "http://www.w3.org/2000/svg"))
    ∷ (names.Width, Value.Number 1100) ∷ (names.Height, Value.Number high)
    ∷ (names.ViewBox, Value.Text view) ∷ (names.Role, Value.Text (codes "group"))
    ∷ (names.Label, Value.Text name) ∷ [])

-- the picture of what is seen of a line, after so many entries, in this layout
abbrev pub laid_text : PlanFields → LayoutFields → List Shown → ℕ → List ℕ
laid_text plan layout things entries =
    begun_text (height layout (length plan.boxes)) (picture_name plan (length plan.boxes - 1))
    (view_text (height layout (length plan.boxes)))
    ++ inner_text plan layout things entries ++ end_tag tags.Svg

-- the picture of a scene after so many entries
abbrev pub picture_text : PlanFields → Scene → ℕ → List ℕ
picture_text plan scene entries = laid_text plan (layout_of scene.diagrams plan.boxes) scene.shown entries
