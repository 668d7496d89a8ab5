-- The hours and minutes of a train graph, as they are ruled.
use Rattle.std.specs.Prelude.{ℕ, zero, suc, ◌+◌, ◌-◌, ◌*◌, ◌/◌, ◌%◌, ◌==◌, List, [], ◌++◌, codes, decimal}
use Rattle.std.specs.Prelude.{if◌then◌else◌}
use Rattle.graph_scene.specs.Moments.{AxisFields as Axis}
use Rattle.picture_shapes.specs.Shapes.{line_text, words_text}
use Rattle.line_plan.specs.Frames.{BoxFields}
use Rattle.graph_picture.specs.Boxes.{names_text}
use Rattle.graph_picture.specs.Places.{moment_at, point}

-- how many moments a minute has
abbrev pub minute_of : ℕ → ℕ
minute_of version = if version == 1 then 1 else 60

-- how many full minutes so many moments are
abbrev pub minutes_of : ℕ → ℕ → ℕ
minutes_of version moments = moments / minute_of version

-- a number below 100, in two figures
abbrev pub two_figures : ℕ → List ℕ
two_figures number = decimal (number / 10) ++ decimal (number % 10)

-- the hour and the minute of so many minutes of a day
unfoldable pub clock_text : ℕ → List ℕ
clock_text minutes = two_figures (minutes / 60) ++ codes ":" ++ two_figures (minutes % 60)

-- the class of a minute's line: an hour's, that of ten minutes, or another
abbrev pub ruling_class : ℕ → List ℕ
ruling_class minutes =
    if minutes % 60 == 0 then codes "hour" else if minutes % 10 == 0 then codes "tens" else codes "minute"

-- the time above and below a line, where it is one of ten minutes
abbrev pub time_text : ℕ → ℕ → ℕ → List ℕ
time_text bottom x minutes =
    if minutes % 10 == 0
    then words_text (codes "time") (point x 92) (clock_text minutes)
    ++ words_text (codes "time") (point x (bottom + 44)) (clock_text minutes)
    else []

-- the line of a minute
unfoldable pub ruling_text : ℕ → ℕ → ℕ → List ℕ
ruling_text bottom x minutes =
    line_text (ruling_class minutes) (point x 100) (point x (bottom + 28)) ++ time_text bottom x minutes

-- behind the first line the boxes are named once more at each full ten minutes
abbrev pub names_at : ℕ → ℕ → ℕ → List BoxFields → List ℕ
names_at number x minutes boxes =
    if number == 0 then [] else if minutes % 10 == 0 then names_text x 130 boxes else []

-- the lines of so many minutes, from the beginning of the graph on
abbrev pub rulings_text : ℕ → List BoxFields → ℕ → Axis → ℕ → List ℕ
rulings_text version boxes bottom axis zero = []
rulings_text version boxes bottom axis (suc count) =
    rulings_text version boxes bottom axis count
    ++ ruling_text bottom (moment_at axis (axis.beginning + count * minute_of version))
    (minutes_of version axis.beginning + count)
    ++ names_at count (moment_at axis (axis.beginning + count * minute_of version))
    (minutes_of version axis.beginning + count) boxes

-- how many minutes are ruled: from the beginning to the end, both ruled
abbrev pub ruled : ℕ → Axis → ℕ
ruled version axis = minutes_of version (axis.ending - axis.beginning) + 1
