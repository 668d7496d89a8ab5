-- Where things stand in a picture, in units of which a lever's column takes 36.
use Rattle.std.specs.Prelude.{ℕ, ◌+◌, ◌-◌, ◌*◌, ◌/◌, max}
use Rattle.picture_shapes.specs.declared.shapes.Point.{Point}
use Rattle.frame_picture.specs.declared.places.Layout.{Layout}

-- the point so far from the left and from the top
abbrev pub point : ℕ → ℕ → Point
point x y = record { x = x; y = y }

-- the left edge of a lever's column: each lever has a column of its own
abbrev pub column_of : ℕ → ℕ
column_of lever = 30 + 36 * lever

-- the width of a picture
abbrev pub width : Layout → ℕ
width layout = max 800 (column_of layout.levers + 84)

-- the tops of the levers, below what they work
abbrev pub levers_top : Layout → ℕ
levers_top layout = 84 + 6 * layout.longest

-- where the levers end and the tappets begin
abbrev pub tappets_top : Layout → ℕ
tappets_top layout = levers_top layout + 120

-- the top of a channel: each channel has a height of its own
abbrev pub channel_at : Layout → ℕ → ℕ
channel_at layout channel = tappets_top layout + 30 * channel

-- the length of a groove, across all columns
abbrev pub groove_length : Layout → ℕ
groove_length layout = column_of layout.levers + 18

-- the length of a tappet, across all channels
abbrev pub tappet_length : Layout → ℕ
tappet_length layout = 30 * layout.channels + 44

-- where the chart ends
abbrev pub chart_end : Layout → ℕ
chart_end layout = channel_at layout layout.channels + 30

-- how many columns the rows are printed in, and the most lines of one
abbrev pub row_columns : Layout → ℕ
row_columns layout = (width layout - 96) / 430

abbrev pub row_lines : Layout → ℕ
row_lines layout = layout.rows / row_columns layout + 1

-- where the rows begin and end
abbrev pub rows_top : Layout → ℕ
rows_top layout = chart_end layout + 84

abbrev pub rows_end : Layout → ℕ
rows_end layout = rows_top layout + 16 * row_lines layout

-- the height of a picture
abbrev pub height : Layout → ℕ
height layout = rows_end layout + 96
