-- A train that passes a signal or overruns it.
use Rattle.std.specs.Prelude.{◌≡◌, ℕ, Some, IfSome, IsSome, Bool, true, false, not}
use Rattle.line_plan.specs.Frames.{BoxFields, entered_by, signal_of}
use Rattle.line_plan.specs.declared.signal.Signal.{Signal}
use Rattle.line_plan.specs.declared.signal.To.{To}
use Rattle.line_plan.specs.declared.signal.To.TheVariants as leads
use Rattle.line_law.specs.declared.call.Act.{Act}
use Rattle.line_law.specs.declared.call.Act.TheVariants.{Overrun, Pass}
use Rattle.line_law.specs.declared.state.BoxState.{BoxState}
use Rattle.line_law.specs.Decisions.{Decision}
use Rattle.line_law.specs.LeverEnds.{is_off}
use Rattle.line_law.specs.Tracks.{train_on}
use Rattle.line_law.specs.Trains.{overrun_signal, pass_signal, put_at}
use Rattle.train_moves.specs.Standings.{AreEmpty}

-- a train passes a signal, or overruns it
abbrev pub move_signal : Bool → Signal → BoxFields → BoxState → Decision
move_signal false signal box_plan here = pass_signal (Some signal) box_plan here
move_signal true signal box_plan here = overrun_signal (Some signal) box_plan here

-- this train stands at the signal, the arm is off where it passes and at danger where it overruns, and nothing is in
-- the way
pub record MayGo (overrun : Bool) (signal : Signal) (train : ℕ) (here : BoxState) : Type 0 where
  pub stands : train_on here.places signal.from ≡ Some train
  pub arm : is_off here.off signal.lever ≡ not overrun
  pub free : AreEmpty here.places (entered_by signal)

-- the box with a train that has left at the end of its signal, if that is a place of the box
abbrev pub gone_to : To → ℕ → BoxState → BoxState
gone_to (leads.Place place) train left = put_at left place train
gone_to (leads.Section way) train left = left
gone_to leads.Away train left = left

-- a train stands at the signal of a lever, if it has one
abbrev pub StandsAt : BoxFields → BoxState → ℕ → Type 0
StandsAt box_plan here lever = IfSome (signal_of box_plan lever) (λ signal. IsSome (train_on here.places signal.from))

-- a train stands at the signal that a call lets it pass or overrun
abbrev pub HasItsTrain : BoxFields → Act → BoxState → Type 0
HasItsTrain box_plan (Pass lever) here = StandsAt box_plan here lever
HasItsTrain box_plan (Overrun lever) here = StandsAt box_plan here lever
HasItsTrain box_plan act here = Unit {0}
