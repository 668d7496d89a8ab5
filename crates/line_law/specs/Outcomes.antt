-- How a call may come out: refused in its box, or past every test there. Facts of a line are proved by these cases, one
-- for each thing that a call may do.
use Rattle.std.specs.Prelude.{◌≡◌, ℕ, ◌+◌, Some, None, IsTrue}
use Rattle.block_words.specs.declared.Position.{Position}
use Rattle.block_words.specs.declared.Way.{Way}
use Rattle.line_plan.specs.Frames.{BoxFields, berth_of, signal_of}
use Rattle.line_plan.specs.Plans.{PlanFields, train_at}
use Rattle.line_plan.specs.declared.berth.Berth.{Berth}
use Rattle.line_plan.specs.declared.signal.Signal.{Signal}
use Rattle.line_plan.specs.declared.signal.To.TheVariants as leads
use Rattle.line_law.specs.declared.call.Act.{Act}
use Rattle.line_law.specs.declared.call.Act.TheVariants as acts
use Rattle.line_law.specs.declared.call.Reply.{Reply}
use Rattle.line_law.specs.declared.call.Reply.TheVariants.{Passed, Pulled, Put, Brought, Released, Winding}
use Rattle.line_law.specs.declared.state.BoxState.{BoxState}
use Rattle.line_law.specs.Arrivals.{await_train, berth_refusal, berthed, clear_portion_refusal, cleared, parted}
use Rattle.line_law.specs.Bells.{ring, hear, await_bell}
use Rattle.line_law.specs.Controls.{release_refusal, released_here, wind_refusal, wound_here}
use Rattle.line_law.specs.Decisions.{Decision, Here, OnBell, OnBlock, OnPlainLine}
use Rattle.line_law.specs.Instruments.{await_block, turn_refusal, turned}
use Rattle.line_law.specs.Levers.{pull_refusal, pulled, pulled_under, put_back, put_refusal, starter_way}
use Rattle.line_law.specs.Refusals.{is_refused_here}
use Rattle.line_law.specs.Tracks.{train_on}
use Rattle.line_law.specs.Trains.{bring_refusal, brought_here, enter, left_by, overrun_refusal, pass_refusal, put_at}
use Rattle.line_law.specs.Ways.{of_way}

-- a train that is at a signal moves past it: its call is a pass that nothing refuses, or an overrun
pub data Moves (here : BoxState) (lever : ℕ) (signal : Signal) : Act → Type 0 where
  Passes : pass_refusal here signal ≡ None → Moves here lever signal (acts.Pass lever)
  Overruns : overrun_refusal here signal ≡ None → Moves here lever signal (acts.Overrun lever)

-- how a call of a box with this plan comes out, by the state of the box: refused there, with a reply that is a refusal
-- by the box alone, or past every test there
pub data Outcome (plan : PlanFields) (box_plan : BoxFields) (here : BoxState) : Act → Decision → Type 0 where
  Refused : (act : Act) (reply : Reply) → IsTrue (is_refused_here reply)
      → Outcome plan box_plan here act (Here reply here)
  Rings : (side : Way) (code : ℕ) → Outcome plan box_plan here (acts.Ring side code) (OnBell (ring here side code))
  Hears : (side : Way) → Outcome plan box_plan here (acts.Hear side) (OnBell (hear here))
  AwaitsBell : (side : Way) (code : ℕ)
      → Outcome plan box_plan here (acts.AwaitBell side code) (OnBell (await_bell here code))
  Turns : (way : Way) (position : Position) (berth : Berth) → berth_of box_plan way ≡ Some berth
      → turn_refusal here berth (of_way here.incoming way) position ≡ None
      → Outcome plan box_plan here (acts.Turn way position) (OnBlock (turned here way position))
  AwaitsBlock : (way : Way) (position : Position)
      → Outcome plan box_plan here (acts.AwaitBlock way position) (OnBlock (await_block here position))
  Pulls : (lever : ℕ) → starter_way (signal_of box_plan lever) ≡ None → pull_refusal box_plan here lever ≡ None
      → Outcome plan box_plan here (acts.Pull lever) (Here Pulled (pulled here lever (signal_of box_plan lever)))
  PullsStarter : (lever : ℕ) (way : Way) → starter_way (signal_of box_plan lever) ≡ Some way
      → pull_refusal box_plan here lever ≡ None
      → Outcome plan box_plan here (acts.Pull lever)
      (OnBlock (pulled_under here (pulled here lever (signal_of box_plan lever)) way))
  Puts : (lever : ℕ) → put_refusal box_plan here lever ≡ None
      → Outcome plan box_plan here (acts.Put lever) (Here Put (put_back here lever))
  Brings : (train : ℕ) → bring_refusal here train (train_at plan.trains train).place ≡ None
      → Outcome plan box_plan here (acts.Bring train)
      (Here Brought (brought_here here train (train_at plan.trains train).place))
  GoesTo : (act : Act) (lever : ℕ) (signal : Signal) (train place : ℕ) → signal_of box_plan lever ≡ Some signal
      → signal.to ≡ leads.Place place → train_on here.places signal.from ≡ Some train → Moves here lever signal act
      → Outcome plan box_plan here act (Here (Passed train) (put_at (left_by box_plan here signal) place train))
  GoesAway : (act : Act) (lever : ℕ) (signal : Signal) (train : ℕ) → signal_of box_plan lever ≡ Some signal
      → signal.to ≡ leads.Away → train_on here.places signal.from ≡ Some train → Moves here lever signal act
      → Outcome plan box_plan here act (Here (Passed train) (left_by box_plan here signal))
  Enters : (act : Act) (lever : ℕ) (signal : Signal) (train : ℕ) (way : Way) → signal_of box_plan lever ≡ Some signal
      → signal.to ≡ leads.Section way → train_on here.places signal.from ≡ Some train → Moves here lever signal act
      → Outcome plan box_plan here act (OnPlainLine (enter here (left_by box_plan here signal) way train))
  AwaitsTrain : (way : Way) → Outcome plan box_plan here (acts.AwaitTrain way) (OnPlainLine (await_train here way))
  Berths : (way : Way) (berth : Berth) → berth_of box_plan way ≡ Some berth → berth_refusal here way berth ≡ None
      → Outcome plan box_plan here (acts.Berth way) (OnPlainLine (berthed here way berth.place))
  Parts : (way : Way) (berth : Berth) → berth_of box_plan way ≡ Some berth → berth_refusal here way berth ≡ None
      → Outcome plan box_plan here (acts.BerthPart way) (OnPlainLine (parted here way berth.place))
  Clears : (way : Way) → clear_portion_refusal (of_way here.incoming way).portion ≡ None
      → Outcome plan box_plan here (acts.ClearPortion way) (OnPlainLine (cleared here way))
  Winds : (way : Way) → wind_refusal (of_way here.incoming way) ≡ None
      → Outcome plan box_plan here (acts.Wind way)
      (Here (Winding (here.moment + plan.delay)) (wound_here here way (here.moment + plan.delay)))
  Releases : (way : Way) → release_refusal here.moment (of_way here.incoming way).ready_at ≡ None
      → Outcome plan box_plan here (acts.Release way) (Here Released (released_here here way))
