-- What stands at a box in numbers, and the thing that is found again from its numbers.
use Rattle.std.specs.Prelude.{◌≢◌, ℕ, ◌==◌, Bool, true, false, List, [], ◌∷◌, Option, Some, None}
use Rattle.std.specs.Prelude.{if◌then◌else◌, slice_get}
use Rattle.block_words.specs.Instruments.{position_code}
use Rattle.line_law.specs.Replies.{mark_number, way_number}
use Rattle.look_records.specs.declared.thing.BoxThing.{BoxThing}
use Rattle.look_records.specs.declared.thing.BoxThing.TheVariants as things
use Rattle.look_records.specs.declared.thing.LineTrains.{LineTrains}
use Rattle.line_numbers.specs.declared.things.ThingNumbers.{ThingNumbers}
use Rattle.line_numbers.specs.Parts.{mark_of, number_if, position_of, some_if, way_of}

-- the number of an arm, whether it is off, where there is one: 0 for none, 1 on, 2 off
abbrev pub arm_number : Option Bool → ℕ
arm_number None = 0
arm_number (Some false) = 1
arm_number (Some true) = 2

-- the arm of a number
abbrev pub arm_of : ℕ → Option Bool
arm_of n = if n == 0 then None else Some (n == 2)

-- a thing of that kind, with no arm and no trains
abbrev pub thing_as : ℕ → ℕ → ℕ → ThingNumbers
thing_as k n s = record { kind = k; number = n; state = s; arm = 0; first = 0; second = 0; third = 0; fourth = 0 }

-- a plain line with its trains
abbrev pub track_numbers : ℕ → LineTrains → Bool → ThingNumbers
track_numbers n trains portion =
    record (thing_as 3 n (mark_number portion)) {
      first = number_if trains.first;
      second = number_if trains.second;
      third = number_if trains.third;
      fourth = number_if trains.fourth;
    }

-- the numbers of a thing that stands at a box
abbrev pub thing_numbers : BoxThing → ThingNumbers
thing_numbers (things.Lever n reversed off) = record (thing_as 0 n (mark_number reversed)) { arm = arm_number off }
thing_numbers (things.Place p train) = thing_as 1 p (number_if train)
thing_numbers (things.Bell way unheard) = thing_as 2 (way_number way) (number_if unheard)
thing_numbers (things.Line way trains portion) = track_numbers (way_number way) trains portion
thing_numbers (things.Block way position) = thing_as 4 (way_number way) (position_code position)

-- the trains of a plain line, of their numbers
abbrev pub trains_of : ThingNumbers → LineTrains
trains_of n =
    record {
      first = some_if n.first;
      second = some_if n.second;
      third = some_if n.third;
      fourth = some_if n.fourth;
    }

-- the kinds in their order, each as these numbers tell it
abbrev pub things_with : ThingNumbers → List BoxThing
things_with n =
    things.Lever n.number (mark_of n.state) (arm_of n.arm)
    ∷ things.Place n.number (some_if n.state)
    ∷ things.Bell (way_of n.number) (some_if n.state)
    ∷ things.Line (way_of n.number) (trains_of n) (mark_of n.state)
    ∷ things.Block (way_of n.number) (position_of n.state)
    ∷ []

-- the thing with these numbers; none where there is no such kind
abbrev pub thing_in : ThingNumbers → Option BoxThing
thing_in n = slice_get (things_with n) n.kind

-- the trains and codes of a thing are numbered from 1
abbrev pub IsFromOne : BoxThing → Type 0
IsFromOne (things.Lever n reversed off) = Unit {0}
IsFromOne (things.Place p train) = train ≢ Some 0
IsFromOne (things.Bell way unheard) = unheard ≢ Some 0
IsFromOne (things.Line way trains portion) =
    (trains.first ≢ Some 0) × (trains.second ≢ Some 0) × (trains.third ≢ Some 0) × (trains.fourth ≢ Some 0)
IsFromOne (things.Block way position) = Unit {0}
