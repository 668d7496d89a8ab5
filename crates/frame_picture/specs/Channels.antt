-- The locking chart of a picture, as it is written.
use Rattle.std.specs.Prelude.{ℕ, zero, suc, ◌+◌, ◌-◌, ◌*◌, ◌/◌, ◌%◌, List, [], ◌∷◌, ◌++◌, codes, decimal}
use Rattle.std.specs.List.{flat_map}
use Rattle.bridle_frame.specs.declared.bridle.Notches.{Notches}
use Rattle.bridle_frame.specs.declared.bridle.Notches.TheVariants as notches
use Rattle.line_plan.specs.declared.frame.Lever.{Lever}
use Rattle.locking_table.specs.declared.row.Row.{Row}
use Rattle.locking_table.specs.Printing.{row_text}
use Rattle.mark_up.specs.declared.tags.Tag.TheVariants as tags
use Rattle.mark_up.specs.Documents.{end_tag}
use Rattle.picture_shapes.specs.declared.shapes.Point.{Point}
use Rattle.frame_picture.specs.declared.places.Layout.{Layout}
use Rattle.frame_picture.specs.declared.scene.Bar.{Bar}
use Rattle.frame_picture.specs.declared.scene.LaidDog.{LaidDog}
use Rattle.frame_picture.specs.Places.{channel_at, chart_end, column_of, groove_length, point, row_lines, rows_top}
use Rattle.frame_picture.specs.Places.{tappet_length, tappets_top}
use Rattle.picture_shapes.specs.Shapes.{group_start, line_text, number_text, polygon_text, rect_text, words_text}

-- ---- channels and tappets

-- the groove of a channel, with its number
unfoldable pub channel_text : Layout → ℕ → List ℕ
channel_text layout channel =
    rect_text (codes "channel") (point 56 (channel_at layout channel + 6)) (groove_length layout) 18
    ++ number_text (codes "small end") (point 44 (channel_at layout channel + 19)) channel

-- the channels from 1 to so many
abbrev pub channels_text : Layout → ℕ → List ℕ
channels_text layout zero = []
channels_text layout (suc count) = channels_text layout count ++ channel_text layout (suc count)

-- the tappet of a lever, with the lever's number at its end
unfoldable pub tappet_text : Layout → ℕ → List ℕ
tappet_text layout lever =
    rect_text (codes "tappet") (point (column_of lever + 13) (tappets_top layout)) 10 (tappet_length layout)
    ++ number_text (codes "mid") (point (column_of lever + 18) (chart_end layout + 28)) lever

abbrev pub tappets_text : Layout → List Lever → List ℕ
tappets_text layout levers = flat_map (λ lever. tappet_text layout lever.number) levers

-- ---- dogs

-- a corner of a figure
unfoldable pub corner_text : ℕ → ℕ → List ℕ
corner_text x y = codes " " ++ decimal x ++ codes "," ++ decimal y

-- a notch in a tappet whose column begins at a point
abbrev pub notch_corners : Point → List ℕ
notch_corners at =
    corner_text (at.x + 13) at.y ++ corner_text (at.x + 20) (at.y + 7) ++ corner_text (at.x + 13) (at.y + 14)

unfoldable pub notch_text : Point → List ℕ
notch_text at = polygon_text (codes "notch") (notch_corners at)

-- the notches of a dog: that for its lever at normal beside the dog, that for it reversed a stroke below
abbrev pub notches_text : Notches → Point → List ℕ
notches_text notches.Normal at = notch_text (point at.x (at.y + 8))
notches_text notches.Reversed at = notch_text (point at.x (at.y + 22))
notches_text notches.Both at = notch_text (point at.x (at.y + 8)) ++ notch_text (point at.x (at.y + 22))

-- how far a dog reaches while its lever is normal: into its notch, or to the edge of the tappet
abbrev pub reach : Notches → ℕ
reach notches.Normal = 19
reach notches.Reversed = 16
reach notches.Both = 19

-- the letter of a dog's notches
abbrev pub notch_letter : Notches → List ℕ
notch_letter notches.Normal = codes "N"
notch_letter notches.Reversed = codes "R"
notch_letter notches.Both = codes "B"

-- the outline of a dog whose nose reaches to a point
abbrev pub wedge_corners : Point → List ℕ
wedge_corners nose =
    corner_text (nose.x - 16) (nose.y + 1) ++ corner_text (nose.x - 6) (nose.y + 1) ++ corner_text nose.x (nose.y + 7)
    ++ corner_text (nose.x - 6) (nose.y + 13) ++ corner_text (nose.x - 16) (nose.y + 13)

unfoldable pub wedge_text : Point → List ℕ
wedge_text nose = polygon_text (codes "dog") (wedge_corners nose)

-- a dog at its tappet, with its notches and their letter
unfoldable pub dog_text : Notches → Point → List ℕ
dog_text its at =
    notches_text its at ++ wedge_text (point (at.x + reach its) (at.y + 8))
    ++ words_text (codes "letter") (point (at.x + reach its - 10) (at.y + 18)) (notch_letter its)

-- each dog once, in its channel at its lever
abbrev pub dogs_text : Layout → List LaidDog → List ℕ
dogs_text layout dogs =
    flat_map (λ dog. dog_text dog.notches (point (column_of dog.lever) (channel_at layout dog.channel))) dogs

-- ---- bars

-- the name by which a bar is told
abbrev pub bar_name : Bar → Row → List ℕ
bar_name bar row =
    codes "row " ++ decimal bar.row ++ codes ", channel " ++ decimal bar.channel ++ codes ": " ++ row_text row

-- a bar in its channel, from its lowest lever to its highest, with its row's number
unfoldable pub bar_text : Layout → Bar → Row → List ℕ
bar_text layout bar row =
    group_start (bar_name bar row)
    ++ line_text (codes "bridle") (point (column_of bar.lowest + 3) (channel_at layout bar.channel + 15))
    (point (column_of bar.highest + 13) (channel_at layout bar.channel + 15))
    ++ number_text (codes "tiny") (point (column_of bar.lowest + 25) (channel_at layout bar.channel + 12)) bar.row
    ++ end_tag tags.Group

-- each bar once, with its row
abbrev pub bars_text : Layout → List Bar → List Row → List ℕ
bars_text layout [] rows = []
bars_text layout (bar ∷ bars) [] = []
bars_text layout (bar ∷ bars) (row ∷ rows) = bar_text layout bar row ++ bars_text layout bars rows

-- ---- rows

-- a row in the list, behind so many others
unfoldable pub row_line : Layout → ℕ → Row → List ℕ
row_line layout before row =
    number_text (codes "row end") (point (48 + 430 * (before / row_lines layout) + 24)
    (rows_top layout + 16 * (before % row_lines layout))) (before + 1)
    ++ words_text (codes "row") (point (48 + 430 * (before / row_lines layout) + 32)
    (rows_top layout + 16 * (before % row_lines layout))) (row_text row)

-- the rows, in order, behind so many others
abbrev pub rows_from : Layout → ℕ → List Row → List ℕ
rows_from layout before [] = []
rows_from layout before (row ∷ rows) = row_line layout before row ++ rows_from layout (before + 1) rows

-- their heading
unfoldable pub rows_head : Layout → List ℕ
rows_head layout = words_text (codes "sub") (point 48 (rows_top layout - 24)) (codes "Rows of the locking table")

-- the rows, in order, under their heading
unfoldable pub rows_text : Layout → List Row → List ℕ
rows_text layout rows = rows_head layout ++ rows_from layout 0 rows
