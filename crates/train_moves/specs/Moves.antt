-- How a train passes a signal or overruns it.
use Rattle.std.specs.Prelude.{◌≡◌, ◌≢◌, ℕ, ◌<◌, List, Option, Some, None, Bool, true, false, All, length, slice_set}
use Rattle.line_plan.specs.Frames.{end_places, entered_by}
use Rattle.line_plan.specs.declared.signal.Signal.{Signal}
use Rattle.line_plan.specs.declared.signal.To.{To}
use Rattle.line_plan.specs.declared.signal.To.TheVariants as leads
use Rattle.track_circuits.specs.Tracks.{occupant_of}
use Rattle.train_moves.specs.Standings.{AreEmpty, StandsFirst, first_standing}
use Rattle.train_moves.specs.declared.moves.MoveTest.{MoveTest}
use Rattle.train_moves.specs.declared.moves.MoveTest.TheVariants.{Free, NoTrain, AtDanger, ArmOff, Occupied}
use Rattle.train_moves.specs.declared.standing.Standing.{Standing}

-- a box of so many places has each that the signal names
pub record HasPlaces (places : ℕ) (signal : Signal) : Type 0 where
  pub from : signal.from < places
  pub over : All (λ place. place < places) signal.over
  pub to : All (λ place. place < places) (end_places signal.to)

-- ---- the test

-- occupied where a train stands in the way; else the train at the signal may go
abbrev pub way_test : Option Standing → ℕ → MoveTest
way_test None train = Free train
way_test (Some there) train = Occupied there.place there.train

-- by whether the arm is off, and whether it is an overrun: a train passes an arm that is off, and overruns one at
-- danger
abbrev pub arm_test : Bool → Bool → MoveTest → MoveTest
arm_test false false later = AtDanger
arm_test false true later = later
arm_test true false later = later
arm_test true true later = ArmOff

-- by the train at the signal, and by what stands in its way
abbrev pub train_test : Option ℕ → Bool → Bool → Option Standing → MoveTest
train_test None off overrun there = NoTrain
train_test (Some train) off overrun there = arm_test off overrun (way_test there train)

-- whether a train may go: one stands at the signal, the arm is as it has to be, and no train stands in the way: on the
-- places run over and then on the one to which the signal leads
abbrev pub move_test : List (Option ℕ) → Signal → Bool → Bool → MoveTest
move_test tracks signal off overrun =
    train_test (occupant_of tracks signal.from) off overrun (first_standing tracks (entered_by signal))

-- What an answer tells. Free: this train stands at the signal, and none in the way. Occupied: this train stands at this
-- place, the first in the way that isn't empty.
abbrev pub Tells : List (Option ℕ) → Signal → Bool → Bool → MoveTest → Type 0
Tells tracks signal off overrun (Free train) =
    (occupant_of tracks signal.from ≡ Some train) × AreEmpty tracks (entered_by signal)
Tells tracks signal off overrun NoTrain = occupant_of tracks signal.from ≡ None
Tells tracks signal off overrun AtDanger = (off ≡ false) × (overrun ≡ false)
Tells tracks signal off overrun ArmOff = (off ≡ true) × (overrun ≡ true)
Tells tracks signal off overrun (Occupied place train) = StandsFirst tracks (entered_by signal) place train

-- ---- the move

-- a train that has left comes to the place to which the signal leads, or to none
abbrev pub come_to : List (Option ℕ) → ℕ → To → List (Option ℕ)
come_to left train (leads.Place place) = slice_set left place (Some train)
come_to left train (leads.Section way) = left
come_to left train leads.Away = left

-- the occupants of the places after the train has gone from the signal's place to where it leads
abbrev pub gone : List (Option ℕ) → Signal → ℕ → List (Option ℕ)
gone tracks signal train = come_to (slice_set tracks signal.from None) train signal.to

-- the train has gone from one place to where a signal leads, and nothing else has moved
pub record HasGone (before after : List (Option ℕ)) (from : ℕ) (to : To) (train : ℕ) : Type 0 where
  pub size : length after ≡ length before
  pub left : occupant_of after from ≡ None
  pub stands : All (λ place. occupant_of after place ≡ Some train) (end_places to)
  pub others : (place : ℕ) → place ≢ from → All (λ there. place ≢ there) (end_places to)
      → occupant_of after place ≡ occupant_of before place
