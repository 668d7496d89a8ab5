-- A chart as it is printed.
use Rattle.std.specs.Prelude.{ℕ, ◌+◌, List, [], ◌∷◌, ◌++◌, ◌==◌, if◌then◌else◌, codes, decimal, replicate, suc, zero}
use Rattle.std.specs.List.{flat_map}
use Rattle.bridle_frame.specs.declared.bridle.Bridle.{Bridle}
use Rattle.bridle_frame.specs.declared.bridle.Dog.{Dog}
use Rattle.bridle_frame.specs.declared.bridle.Notches.TheVariants as notches
use Rattle.line_plan.specs.Frames.{BoxFields, frame_size}
use Rattle.tappet_compiler.specs.Compiled.{compiled}
use Rattle.frame_chart.specs.declared.charts.Chart.{Chart}
use Rattle.frame_chart.specs.declared.drawing.Mark.{Mark}
use Rattle.frame_chart.specs.declared.drawing.Mark.TheVariants as marks
use Rattle.frame_chart.specs.declared.span.Span.{Span}
use Rattle.frame_chart.specs.Spans.{crosses, span_of}
use Rattle.frame_chart.specs.Laying.{chart_of}

-- ---- the drawing of a channel

-- where a channel meets a tappet: `N`, `R` or `B` at a dog's notches, `-` elsewhere in a span, `.` outside of all spans
abbrev pub mark_text : Mark → List ℕ
mark_text marks.Outside = codes "."
mark_text marks.Inside = codes "-"
mark_text (marks.Notched notches.Normal) = codes "N"
mark_text (marks.Notched notches.Reversed) = codes "R"
mark_text (marks.Notched notches.Both) = codes "B"

-- a bridle with these dogs, at a lever in its span
abbrev pub mark_of : ℕ → List Dog → Mark
mark_of lever [] = marks.Inside
mark_of lever (dog ∷ dogs) = if dog.lever == lever then marks.Notched dog.notches else mark_of lever dogs

-- the mark at a lever once a bridle is drawn over it
abbrev pub mark_over : ℕ → Bridle → Mark → Mark
mark_over lever bridle mark = if crosses lever (span_of bridle) then mark_of lever bridle.dogs else mark

-- the marks from a lever on, once a bridle is drawn over them
abbrev pub drawn_from : ℕ → Bridle → List Mark → List Mark
drawn_from lever bridle [] = []
drawn_from lever bridle (mark ∷ others) = mark_over lever bridle mark ∷ drawn_from (lever + 1) bridle others

-- the marks from lever 1 on, once the bridles of a channel are drawn over them
abbrev pub drawn : ℕ → List Mark → List Bridle → List ℕ → List Mark
drawn channel drawing [] channels = drawing
drawn channel drawing (bridle ∷ bridles) [] = drawing
drawn channel drawing (bridle ∷ bridles) (its ∷ channels) =
    drawn channel (if its == channel then drawn_from 1 bridle drawing else drawing) bridles channels

-- ---- the lines

unfoldable pub span_text : Span → List ℕ
span_text span = codes " from " ++ decimal span.lowest ++ codes " to " ++ decimal span.highest

-- a bridle's line: its number, its row, its channel and its span
unfoldable pub bridle_text : ℕ → Bridle → ℕ → List ℕ
bridle_text number bridle channel =
    codes "bridle " ++ decimal number ++ codes " row " ++ decimal bridle.row ++ codes " channel " ++ decimal channel
    ++ span_text (span_of bridle) ++ 10 ∷ []

-- the lines of bridles that are numbered from this number on
abbrev pub bridles_text : ℕ → List Bridle → List ℕ → List ℕ
bridles_text number [] channels = []
bridles_text number (bridle ∷ bridles) [] = []
bridles_text number (bridle ∷ bridles) (channel ∷ channels) =
    bridle_text number bridle channel ++ bridles_text (number + 1) bridles channels

-- a channel's line: its number, and its mark at each lever of the frame
unfoldable pub channel_text : ℕ → List Bridle → List ℕ → ℕ → List ℕ
channel_text levers bridles channels channel =
    codes "channel " ++ decimal channel ++ 32 ∷ flat_map mark_text
    (drawn channel (replicate levers marks.Outside) bridles channels) ++ 10 ∷ []

-- the lines of the channels from 1 to so many
abbrev pub channels_text : ℕ → List Bridle → List ℕ → ℕ → List ℕ
channels_text levers bridles channels zero = []
channels_text levers bridles channels (suc count) =
    channels_text levers bridles channels count ++ channel_text levers bridles channels (suc count)

unfoldable pub crossed_text : ℕ → List ℕ → List ℕ
crossed_text column crossing =
    codes "column " ++ decimal column ++ codes " crossed" ++ flat_map (λ bridle. 32 ∷ decimal bridle) crossing
    ++ 10 ∷ []

-- the column, and the numbers of the bridles that it crosses
abbrev pub column_text : ℕ → List ℕ → List ℕ
column_text column crossing = if column == 0 then codes "column none" ++ 10 ∷ [] else crossed_text column crossing

-- the name of the box, how many channels there are, the bridles, the channels, and the column that shows that fewer
-- can't do
unfoldable pub chart_text : BoxFields → List Bridle → Chart → List ℕ
chart_text box_plan bridles chart =
    codes "chart " ++ box_plan.name ++ 10 ∷ codes "channels " ++ decimal chart.count
    ++ 10 ∷ bridles_text 1 bridles chart.channels
    ++ channels_text (frame_size box_plan.levers) bridles chart.channels chart.count
    ++ column_text chart.column chart.crossing

-- the bridles of a box's locking table
abbrev pub bridles_of : BoxFields → List Bridle
bridles_of box_plan = compiled 1 box_plan.rows

-- the chart of a box
unfoldable pub box_chart_text : BoxFields → List ℕ
box_chart_text box_plan = chart_text box_plan (bridles_of box_plan) (chart_of (bridles_of box_plan))
