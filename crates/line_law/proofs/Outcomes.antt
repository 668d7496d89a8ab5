-- Every call comes out in one of the listed ways.
use Rattle.std.proofs.Common.{◌≡◌, ℕ, Option, Some, None, refl}
use Rattle.block_words.specs.declared.Position.{Position}
use Rattle.block_words.specs.declared.Way.{Way}
use Rattle.line_plan.specs.Frames.{BoxFields, berth_of, signal_of}
use Rattle.line_plan.specs.Plans.{PlanFields, train_at}
use Rattle.line_plan.specs.declared.berth.Berth.{Berth}
use Rattle.line_plan.specs.declared.signal.Signal.{Signal}
use Rattle.line_plan.specs.declared.signal.To.{To}
use Rattle.line_plan.specs.declared.signal.To.TheVariants as leads
use Rattle.line_law.specs.declared.call.Act.{Act}
use Rattle.line_law.specs.declared.call.Act.TheVariants as acts
use Rattle.line_law.specs.declared.call.Reply.{Reply}
use Rattle.line_law.specs.declared.call.Reply.TheVariants as replies
use Rattle.line_law.specs.declared.state.BoxState.{BoxState}
use Rattle.line_law.specs.Arrivals.{berth, berth_part, berth_refusal, clear_portion_refusal}
use Rattle.line_law.specs.Controls.{release_refusal, wind_refusal}
use Rattle.line_law.specs.Decisions.{Decision, unless}
use Rattle.line_law.specs.Instruments.{turn, turn_refusal}
use Rattle.line_law.specs.Law.{decide}
use Rattle.line_law.specs.Levers.{pull_at, pull_refusal, pulled, put_refusal, starter_way}
use Rattle.line_law.specs.Outcomes.{Moves, Passes, Overruns, Outcome, Refused, Rings, Hears, AwaitsBell, Turns}
use Rattle.line_law.specs.Outcomes.{AwaitsBlock, Pulls, PullsStarter, Puts, Brings, GoesTo, GoesAway, Enters}
use Rattle.line_law.specs.Outcomes.{AwaitsTrain, Berths, Parts, Clears, Winds, Releases}
use Rattle.line_law.specs.Tracks.{train_on}
use Rattle.line_law.specs.Trains.{bring_refusal, go, left_by, move, overrun_refusal, overrun_signal, pass_refusal}
use Rattle.line_law.specs.Trains.{pass_signal}
use Rattle.line_law.specs.Ways.{of_way}
use Rattle.line_law.proofs.Refusing.{Refuses, berth_refuses, bring_refuses, clear_portion_refuses, overrun_refuses}
use Rattle.line_law.proofs.Refusing.{pass_refuses, pull_refuses, put_refuses, release_refuses, turn_refuses}
use Rattle.line_law.proofs.Refusing.{wind_refuses}

-- past the tests of the box, or refused there
unless_out : (r : Option Reply) (plan : PlanFields) (box_plan : BoxFields) (act : Act) (here : BoxState)
    (rest : Decision) → Refuses r → (r ≡ None → Outcome plan box_plan here act rest)
    → Outcome plan box_plan here act (unless r here rest)
unless_out (Some reply) plan box_plan act here rest refused h = Refused act reply refused
unless_out None plan box_plan act here rest refused h = h refl

turn_out : (b : Option Berth) (plan : PlanFields) (box_plan : BoxFields) (here : BoxState) (way : Way)
    (position : Position) → berth_of box_plan way ≡ b
    → Outcome plan box_plan here (acts.Turn way position) (turn b here way position)
turn_out None plan box_plan here way position e = Refused (acts.Turn way position) replies.AlreadyThere refl
turn_out (Some b) plan box_plan here way position e =
    unless_out (turn_refusal here b (of_way here.incoming way) position) plan box_plan (acts.Turn way position) here _
    (turn_refuses here b (of_way here.incoming way) position) (λ free. Turns way position b e free)

pull_out : (w : Option Way) (plan : PlanFields) (box_plan : BoxFields) (here : BoxState) (lever : ℕ)
    → starter_way (signal_of box_plan lever) ≡ w → pull_refusal box_plan here lever ≡ None
    → Outcome plan box_plan here (acts.Pull lever) (pull_at here (pulled here lever (signal_of box_plan lever)) w)
pull_out None plan box_plan here lever e free = Pulls lever e free
pull_out (Some way) plan box_plan here lever e free = PullsStarter lever way e free

go_out : (to : To) (plan : PlanFields) (box_plan : BoxFields) (here : BoxState) (act : Act) (lever : ℕ)
    (signal : Signal) (train : ℕ) → signal_of box_plan lever ≡ Some signal → signal.to ≡ to
    → train_on here.places signal.from ≡ Some train
    → Moves here lever signal act → Outcome plan box_plan here act (go here (left_by box_plan here signal) train to)
go_out (leads.Place place) plan box_plan here act lever signal train is to there moves =
    GoesTo act lever signal train place is to there moves
go_out (leads.Section way) plan box_plan here act lever signal train is to there moves =
    Enters act lever signal train way is to there moves
go_out leads.Away plan box_plan here act lever signal train is to there moves =
    GoesAway act lever signal train is to there moves

move_out : (t : Option ℕ) (r : Option Reply) (plan : PlanFields) (box_plan : BoxFields) (here : BoxState) (act : Act)
    (lever : ℕ) (signal : Signal) → signal_of box_plan lever ≡ Some signal → train_on here.places signal.from ≡ t
    → Refuses r → (r ≡ None → Moves here lever signal act)
    → Outcome plan box_plan here act (move t r box_plan here signal)
move_out None r plan box_plan here act lever signal is there refused moves = Refused act replies.NoTrain refl
move_out (Some train) (Some reply) plan box_plan here act lever signal is there refused moves =
    Refused act reply refused
move_out (Some train) None plan box_plan here act lever signal is there refused moves =
    go_out signal.to plan box_plan here act lever signal train is refl there (moves refl)

pass_out : (s : Option Signal) (plan : PlanFields) (box_plan : BoxFields) (here : BoxState) (lever : ℕ)
    → signal_of box_plan lever ≡ s → Outcome plan box_plan here (acts.Pass lever) (pass_signal s box_plan here)
pass_out None plan box_plan here lever is = Refused (acts.Pass lever) replies.NoTrain refl
pass_out (Some signal) plan box_plan here lever is =
    move_out (train_on here.places signal.from) (pass_refusal here signal) plan box_plan here (acts.Pass lever) lever
    signal is refl (pass_refuses here signal) (λ free. Passes free)

overrun_out : (s : Option Signal) (plan : PlanFields) (box_plan : BoxFields) (here : BoxState) (lever : ℕ)
    → signal_of box_plan lever ≡ s → Outcome plan box_plan here (acts.Overrun lever) (overrun_signal s box_plan here)
overrun_out None plan box_plan here lever is = Refused (acts.Overrun lever) replies.NoTrain refl
overrun_out (Some signal) plan box_plan here lever is =
    move_out (train_on here.places signal.from) (overrun_refusal here signal) plan box_plan here (acts.Overrun lever)
    lever signal is refl (overrun_refuses here signal) (λ free. Overruns free)

berth_out : (b : Option Berth) (plan : PlanFields) (box_plan : BoxFields) (here : BoxState) (way : Way)
    → berth_of box_plan way ≡ b → Outcome plan box_plan here (acts.Berth way) (berth b here way)
berth_out None plan box_plan here way e = Refused (acts.Berth way) (replies.BerthOccupied 0) refl
berth_out (Some b) plan box_plan here way e =
    unless_out (berth_refusal here way b) plan box_plan (acts.Berth way) here _ (berth_refuses here way b)
    (λ free. Berths way b e free)

part_out : (b : Option Berth) (plan : PlanFields) (box_plan : BoxFields) (here : BoxState) (way : Way)
    → berth_of box_plan way ≡ b → Outcome plan box_plan here (acts.BerthPart way) (berth_part b here way)
part_out None plan box_plan here way e = Refused (acts.BerthPart way) (replies.BerthOccupied 0) refl
part_out (Some b) plan box_plan here way e =
    unless_out (berth_refusal here way b) plan box_plan (acts.BerthPart way) here _ (berth_refuses here way b)
    (λ free. Parts way b e free)

-- every call comes out in one of the listed ways
pub outcome_of : (plan : PlanFields) (box_plan : BoxFields) (act : Act) (here : BoxState)
    → Outcome plan box_plan here act (decide plan box_plan act here)
outcome_of plan box_plan (acts.Ring side code) here = Rings side code
outcome_of plan box_plan (acts.Hear side) here = Hears side
outcome_of plan box_plan (acts.AwaitBell side code) here = AwaitsBell side code
outcome_of plan box_plan (acts.Turn way position) here =
    turn_out (berth_of box_plan way) plan box_plan here way position refl
outcome_of plan box_plan (acts.AwaitBlock way position) here = AwaitsBlock way position
outcome_of plan box_plan (acts.Pull lever) here =
    unless_out (pull_refusal box_plan here lever) plan box_plan (acts.Pull lever) here _
    (pull_refuses box_plan here lever)
    (λ free. pull_out (starter_way (signal_of box_plan lever)) plan box_plan here lever refl free)
outcome_of plan box_plan (acts.Put lever) here =
    unless_out (put_refusal box_plan here lever) plan box_plan (acts.Put lever) here _ (put_refuses box_plan here lever)
    (λ free. Puts lever free)
outcome_of plan box_plan (acts.Bring train) here =
    unless_out (bring_refusal here train (train_at plan.trains train).place) plan box_plan (acts.Bring train) here _
    (bring_refuses here train (train_at plan.trains train).place) (λ free. Brings train free)
outcome_of plan box_plan (acts.Pass lever) here = pass_out (signal_of box_plan lever) plan box_plan here lever refl
outcome_of plan box_plan (acts.Overrun lever) here =
    overrun_out (signal_of box_plan lever) plan box_plan here lever refl
outcome_of plan box_plan (acts.AwaitTrain way) here = AwaitsTrain way
outcome_of plan box_plan (acts.Berth way) here = berth_out (berth_of box_plan way) plan box_plan here way refl
outcome_of plan box_plan (acts.BerthPart way) here = part_out (berth_of box_plan way) plan box_plan here way refl
outcome_of plan box_plan (acts.ClearPortion way) here =
    unless_out (clear_portion_refusal (of_way here.incoming way).portion) plan box_plan (acts.ClearPortion way) here _
    (clear_portion_refuses (of_way here.incoming way).portion) (λ free. Clears way free)
outcome_of plan box_plan (acts.Wind way) here =
    unless_out (wind_refusal (of_way here.incoming way)) plan box_plan (acts.Wind way) here _
    (wind_refuses (of_way here.incoming way)) (λ free. Winds way free)
outcome_of plan box_plan (acts.Release way) here =
    unless_out (release_refusal here.moment (of_way here.incoming way).ready_at) plan box_plan (acts.Release way) here _
    (release_refuses here.moment (of_way here.incoming way).ready_at) (λ free. Releases way free)
