-- A picture of a frame, as it is written.
use Rattle.std.specs.Prelude.{ℕ, ◌≡◌, ◌+◌, List, [], ◌∷◌, ◌++◌, codes, decimal, length}
use Rattle.line_plan.specs.declared.frame.Kind.{Kind}
use Rattle.line_plan.specs.declared.frame.Kind.TheVariants as kinds
use Rattle.line_plan.specs.Frames.{BoxFields, frame_size}
use Rattle.mark_up.specs.declared.attributes.Name.TheVariants as names
use Rattle.mark_up.specs.Attributes.{ValueFields as Value}
use Rattle.mark_up.specs.Tags.{prolog}
use Rattle.mark_up.specs.declared.tags.Tag.TheVariants as tags
use Rattle.mark_up.specs.Documents.{end_tag, start_tag}
use Rattle.mark_up.specs.Escapes.{escaped}
use Rattle.picture_shapes.specs.declared.shapes.Point.{Point}
use Rattle.frame_picture.specs.declared.key_drawing.TheConstants.{BRIDLES, NOTCHES}
use Rattle.frame_picture.specs.declared.picture.TheConstants.{STYLE}
use Rattle.frame_picture.specs.declared.places.Layout.{Layout}
use Rattle.frame_picture.specs.declared.scene.Scene.{Scene}
use Rattle.frame_picture.specs.Channels.{bars_text, channels_text, dogs_text, rows_text, tappets_text}
use Rattle.frame_picture.specs.Levers.{body_class, kind_letter, letter_class, levers_text, longest_words}
use Rattle.frame_picture.specs.Places.{groove_length, height, point, rows_end, tappets_top, width}
use Rattle.picture_shapes.specs.Shapes.{rect_text, words_text}

-- the name of a picture
unfoldable pub picture_name : BoxFields → List ℕ
picture_name box_plan = codes "Lever frame of " ++ box_plan.name

-- how many rows and channels there are
abbrev pub counts_text : Layout → List ℕ
counts_text layout =
    codes "rows of the locking table: " ++ decimal layout.rows ++ codes "; " ++ codes "channels: "
    ++ decimal layout.channels

-- the title of a picture, and its style
unfoldable pub title_text : List ℕ → List ℕ
title_text name =
    (start_tag tags.Title [] ++ escaped name ++ end_tag tags.Title)
    ++ (start_tag tags.Style [] ++ escaped STYLE.now ++ end_tag tags.Style)

-- the background of a picture, and its head
unfoldable pub head_text : Layout → List ℕ → List ℕ
head_text layout name =
    rect_text (codes "background") (point 0 0) (width layout) (height layout)
    ++ words_text (codes "head") (point 48 40) name
    ++ words_text (codes "sub") (point 48 62) (counts_text layout)

-- a colour with its letter, and the kind of lever that has it
unfoldable pub kind_text : Point → Kind → List ℕ → List ℕ
kind_text corner kind words =
    rect_text (body_class kind) corner 18 18
    ++ words_text (letter_class kind) (point (corner.x + 9) (corner.y + 13)) (kind_letter kind)
    ++ words_text (codes "row") (point (corner.x + 26) (corner.y + 13)) words

-- the kinds of the levers of signals, with their colours and letters
unfoldable pub signal_kinds_text : ℕ → List ℕ
signal_kinds_text y =
    kind_text (point 48 y) kinds.Signal (codes "stop signal")
    ++ kind_text (point 178 y) kinds.Distant (codes "distant signal")

-- those of the other levers
unfoldable pub other_kinds_text : ℕ → List ℕ
other_kinds_text y =
    kind_text (point 328 y) kinds.Points (codes "points")
    ++ kind_text (point 428 y) kinds.Lock (codes "facing point lock")
    ++ kind_text (point 598 y) kinds.Spare (codes "spare")

-- the key of a picture: the kinds, and what is said of bridles and of notches
unfoldable pub key_text : ℕ → List ℕ
key_text y =
    signal_kinds_text y ++ other_kinds_text y ++ words_text (codes "row") (point 48 (y + 42)) BRIDLES.now
    ++ words_text (codes "row") (point 48 (y + 58)) NOTCHES.now

-- the chart of a scene: the grooves of its channels, the tappets, the bars and the dogs
unfoldable pub chart_text : BoxFields → Layout → Scene → List ℕ
chart_text box_plan layout scene =
    channels_text layout layout.channels ++ tappets_text layout scene.levers
    ++ bars_text layout scene.bars box_plan.rows ++ dogs_text layout scene.dogs

-- all that stands in a picture
unfoldable pub inner_text : BoxFields → Layout → Scene → List ℕ
inner_text box_plan layout scene =
    title_text (picture_name box_plan) ++ head_text layout (picture_name box_plan)
    ++ levers_text box_plan layout scene.levers
    ++ rect_text (codes "floor") (point 56 (tappets_top layout)) (groove_length layout) 4
    ++ chart_text box_plan layout scene ++ rows_text layout box_plan.rows ++ key_text (rows_end layout + 20)

-- the part of the picture that is seen: all of it
unfoldable pub view_text : Layout → List ℕ
view_text layout = codes "0 0 " ++ decimal (width layout) ++ codes " " ++ decimal (height layout)

-- a picture of a width and a height begins, under a name and with a part that is seen
unfoldable pub begun_text : ℕ → ℕ → List ℕ → List ℕ → List ℕ
begun_text wide high name view = prolog tags.Svg ++ start_tag tags.Svg
    ((names.Namespace, Value.Text (codes "http://www.w3.org/2000/svg"))
    ∷ (names.Width, Value.Number wide) ∷ (names.Height, Value.Number high)
    ∷ (names.ViewBox, Value.Text view) ∷ (names.Role, Value.Text (codes "group"))
    ∷ (names.Label, Value.Text name) ∷ [])

-- the text is the picture of a box's scene, laid out for its levers, channels and rows, and for what the levers
-- work
pub record IsPicture (box_plan : BoxFields) (scene : Scene) (text : List ℕ) : Type 0 where
  pub layout : Layout
  pub levers : layout.levers ≡ frame_size box_plan.levers
  pub channels : layout.channels ≡ scene.channels
  pub rows : layout.rows ≡ length box_plan.rows
  pub longest : layout.longest ≡ longest_words box_plan box_plan.levers
  pub shape : text ≡ begun_text (width layout) (height layout) (picture_name box_plan) (view_text layout)
      ++ inner_text box_plan layout scene ++ end_tag tags.Svg
