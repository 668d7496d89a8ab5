-- What stands at a box: its levers, its places, and of each line that comes in from a neighbour the bell, the trains
-- and the instrument.
use Rattle.std.specs.Prelude.{ℕ, ◌+◌, Bool, List, [], ◌∷◌, ◌++◌, Option, Some, None, is_some, option_map, slice_get}
use Rattle.std.specs.Prelude.{length, if◌then◌else◌}
use Rattle.block_words.specs.Ways.{opposite}
use Rattle.block_words.specs.declared.Position.{Position}
use Rattle.block_words.specs.declared.Way.{Way}
use Rattle.block_words.specs.declared.Way.TheVariants.{Up, Down}
use Rattle.line_plan.specs.Frames.{BoxFields, signal_of}
use Rattle.line_plan.specs.Plans.{PlanFields, box_at as box_plan_at}
use Rattle.line_plan.specs.Sections.{advance_of, next_box, section_berth}
use Rattle.line_plan.specs.Ways.{comes_in}
use Rattle.line_plan.specs.declared.berth.Berth.{Berth}
use Rattle.line_plan.specs.declared.frame.Lever.{Lever}
use Rattle.line_plan.specs.declared.section.Section.{Section}
use Rattle.line_plan.specs.declared.signal.Signal.{Signal}
use Rattle.line_law.specs.declared.state.BoxState.{BoxState}
use Rattle.line_law.specs.declared.state.Passage.{Passage}
use Rattle.line_law.specs.LeverEnds.{is_off, is_pulled}
use Rattle.line_law.specs.Lines.{pair_in, plain_line_of}
use Rattle.line_law.specs.States.{LineState, box_at}
use Rattle.line_law.specs.Ways.{of_way}
use Rattle.look_records.specs.declared.thing.BoxThing.{BoxThing}
use Rattle.look_records.specs.declared.thing.LineTrains.{LineTrains}

-- ---- what stands at a box

-- whether the arm is off, where there is a signal
abbrev pub arm_of : Option Signal → Bool → Option Bool
arm_of None off = None
arm_of (Some signal) off = Some off

-- a lever of a box
abbrev pub lever_at : BoxFields → BoxState → Lever → BoxThing
lever_at box_plan here lever =
    BoxThing.Lever lever.number (is_pulled here.ends lever.number)
    (arm_of (signal_of box_plan lever.number) (is_off here.off lever.number))

-- these levers of a box
abbrev pub levers_at : BoxFields → BoxState → List Lever → List BoxThing
levers_at box_plan here [] = []
levers_at box_plan here (lever ∷ levers) = lever_at box_plan here lever ∷ levers_at box_plan here levers

-- the places of a box, from this one on, each with the train on it
abbrev pub places_at : ℕ → List (Option ℕ) → List BoxThing
places_at place [] = []
places_at place (there ∷ rest) = BoxThing.Place place there ∷ places_at (place + 1) rest

-- ---- what belongs to a section

-- the bell that the box in the rear of a section rings to the box in advance
abbrev pub bell_of : LineState → Section → BoxThing
bell_of state section =
    BoxThing.Bell section.way (of_way (pair_in state section).bells section.way).unheard

-- the train that is so far behind the first one of these
abbrev pub train_behind : List Passage → ℕ → Option ℕ
train_behind line behind = option_map (λ passage. passage.train) (slice_get line behind)

-- the trains of a plain line, of which there are four at most
abbrev pub line_trains : List Passage → LineTrains
line_trains line = record {
  first = train_behind line 0;
  second = train_behind line 1;
  third = train_behind line 2;
  fourth = train_behind line 3;
}

-- a plain line with its trains; the first can be a portion that was left
abbrev pub trains_of : Way → Option ℕ → List Passage → BoxThing
trains_of way portion line = BoxThing.Line way (line_trains line) (is_some portion)

-- what the instrument of a section shows, where its line has a berth and so an instrument
abbrev pub block_of : Option Berth → Way → Position → List BoxThing
block_of None way position = []
block_of (Some berth) way position = BoxThing.Block way position ∷ []

-- what belongs to a section and stands at its box in advance: the bell, the trains on the plain line, the instrument
unfoldable pub section_things : PlanFields → LineState → Section → List BoxThing
section_things plan state section =
    bell_of state section
    ∷ trains_of section.way (of_way (box_at state (advance_of section)).incoming section.way).portion
    (plain_line_of state section)
    ∷ block_of (section_berth plan section) section.way (of_way (pair_in state section).blocks section.way).position

-- the box in the rear of the line of a way that comes into box b
abbrev pub rear_of : ℕ → Way → ℕ
rear_of b way = next_box b (opposite way)

-- the section of the line of a way that comes into box b
abbrev pub section_into : ℕ → Way → Section
section_into b way = record { rear = rear_of b way; way = way }

-- what belongs to the line of a way that comes into box b, where it comes from a neighbour
unfoldable pub incoming_things : PlanFields → LineState → ℕ → Way → List BoxThing
incoming_things plan state b way =
    if comes_in (length plan.boxes) b way then section_things plan state (section_into b way) else []

-- what stands at box b: its levers and its places in the order of the plan, then what comes in on the down line, and on
-- the up line
unfoldable pub things_at : PlanFields → LineState → ℕ → List BoxThing
things_at plan state b =
    levers_at (box_plan_at plan.boxes b) (box_at state b) (box_plan_at plan.boxes b).levers
    ++ places_at 0 (box_at state b).places
    ++ incoming_things plan state b Down
    ++ incoming_things plan state b Up
