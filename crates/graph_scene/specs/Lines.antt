-- The lines of trains.
use Rattle.std.specs.Prelude.{◌≡◌, ℕ, Bool, ◌==◌, not, List, length, map, filter}
use Rattle.std.specs.List.{range_with_len}
use Rattle.line_law.specs.declared.call.Entry.{Entry}
use Rattle.line_plan.specs.Plans.{PlanFields}
use Rattle.graph_scene.specs.declared.deeds.Deed.TheVariants as deeds
use Rattle.graph_scene.specs.declared.deeds.TrainDeed.{TrainDeed}
use Rattle.graph_scene.specs.declared.lines.TrainLine.{TrainLine}
use Rattle.graph_scene.specs.Deeds.{deeds_of}

-- the deeds of a train among those of all trains, in order
abbrev pub deeds_by : ℕ → List TrainDeed → List TrainDeed
deeds_by train deeds = filter (λ deed. deed.train == train) deeds

-- the line of a train: all its deeds, and nothing else
abbrev pub line_of : List TrainDeed → ℕ → TrainLine
line_of deeds train = record { train = train; deeds = deeds_by train deeds }

-- a train is brought to its place
abbrev pub IsBringing : TrainDeed → Type 0
IsBringing deed = (place : ℕ) × (deed.deed ≡ deeds.Brought place)

-- the train did something
abbrev pub is_drawn : TrainLine → Bool
is_drawn line = not (length line.deeds == 0)

-- the lines of so many trains, numbered from 1: of each that did something its line, in the order of the numbers
abbrev pub lines_by : ℕ → List TrainDeed → List TrainLine
lines_by trains deeds = filter is_drawn (map (line_of deeds) (range_with_len 1 trains))

-- the lines of the trains of a plan
abbrev pub lines_of : PlanFields → List Entry → List TrainLine
lines_of plan es = lines_by (length plan.trains) (deeds_of plan es)
