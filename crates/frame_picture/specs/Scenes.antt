-- What a picture of a frame shows.
use Rattle.std.specs.Prelude.{ℕ, ◌+◌, ◌≤◌, ◌⊎◌, List, [], ◌∷◌, ◌++◌, map, max, min}
use Rattle.bridle_frame.specs.declared.bridle.Bridle.{Bridle}
use Rattle.bridle_frame.specs.declared.bridle.Dog.{Dog}
use Rattle.frame_chart.specs.declared.charts.Chart.{Chart}
use Rattle.frame_chart.specs.declared.span.Span.{Span}
use Rattle.frame_chart.specs.Laying.{chart_of}
use Rattle.frame_chart.specs.Printing.{bridles_of}
use Rattle.line_plan.specs.declared.frame.Lever.{Lever}
use Rattle.line_plan.specs.Frames.{BoxFields}
use Rattle.frame_picture.specs.declared.scene.Bar.{Bar}
use Rattle.frame_picture.specs.declared.scene.LaidDog.{LaidDog}
use Rattle.frame_picture.specs.declared.scene.Scene.{Scene}
use Rattle.frame_picture.specs.Places.{column_of}

-- a bar once these dogs are added: it reaches their levers too
abbrev pub widened_bar : Bar → List Dog → Bar
widened_bar bar [] = bar
widened_bar bar (dog ∷ dogs) =
    widened_bar (record {
      row = bar.row;
      channel = bar.channel;
      lowest = min bar.lowest dog.lever;
      highest = max bar.highest dog.lever;
    }) dogs

-- the bar of a row's bridle with these dogs, in a channel: from the lowest to the highest lever
abbrev pub bar_with : ℕ → ℕ → List Dog → Bar
bar_with row channel [] = record { row = row; channel = channel; lowest = 0; highest = 0 }
bar_with row channel (dog ∷ dogs) =
    widened_bar (record { row = row; channel = channel; lowest = dog.lever; highest = dog.lever }) dogs

abbrev pub bar_of : Bridle → ℕ → Bar
bar_of bridle channel = bar_with bridle.row channel bridle.dogs

-- the bars of bridles, each in its channel
abbrev pub bars_of : List Bridle → List ℕ → List Bar
bars_of [] channels = []
bars_of (bridle ∷ bridles) [] = []
bars_of (bridle ∷ bridles) (channel ∷ channels) = bar_of bridle channel ∷ bars_of bridles channels

-- the dogs of a row's bridle, in a channel
abbrev pub laid_dogs : ℕ → ℕ → List Dog → List LaidDog
laid_dogs row channel dogs =
    map (λ dog. record { row = row; channel = channel; lever = dog.lever; notches = dog.notches }) dogs

-- the dogs of bridles, each in the channel of its bridle
abbrev pub dogs_of : List Bridle → List ℕ → List LaidDog
dogs_of [] channels = []
dogs_of (bridle ∷ bridles) [] = []
dogs_of (bridle ∷ bridles) (channel ∷ channels) =
    laid_dogs bridle.row channel bridle.dogs ++ dogs_of bridles channels

-- what is shown of levers, and of bridles as a chart lays them
abbrev pub scene_with : List Lever → List Bridle → Chart → Scene
scene_with levers bridles chart =
    record {
      levers = levers;
      bars = bars_of bridles chart.channels;
      dogs = dogs_of bridles chart.channels;
      channels = chart.count;
    }

-- what is shown of a box: its levers, and the bridles of its locking table in the fewest channels
abbrev pub scene_of : BoxFields → Scene
scene_of box_plan = scene_with box_plan.levers (bridles_of box_plan) (chart_of (bridles_of box_plan))

-- the span of a bar
abbrev pub span_of_bar : Bar → Span
span_of_bar bar = record { lowest = bar.lowest; highest = bar.highest }

-- one bar ends in a column before that in which the other begins
abbrev pub AreBesideOneAnother : Bar → Bar → Type 0
AreBesideOneAnother one other =
    (column_of one.highest + 36 ≤ column_of other.lowest) ⊎ (column_of other.highest + 36 ≤ column_of one.lowest)
