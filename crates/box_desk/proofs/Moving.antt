-- A train passes a signal or overruns it as the law decides.
use Rattle.std.proofs.Common.{◌≡◌, ℕ, Bool, true, false, not, refl, sym, ap, subst, ◌∙◌}
use Rattle.std.specs.Prelude.{Option, Some, None}
use Rattle.block_words.specs.declared.Way.{Way}
use Rattle.line_plan.specs.Frames.{BoxFields, entered_by}
use Rattle.line_plan.specs.declared.signal.Signal.{Signal}
use Rattle.line_plan.specs.declared.signal.To.{To}
use Rattle.line_plan.specs.declared.signal.To.TheVariants as leads
use Rattle.train_moves.specs.Moves.{move_test, train_test}
use Rattle.train_moves.specs.Standings.{AreEmpty, first_standing as first_met}
use Rattle.train_moves.specs.declared.moves.MoveTest.TheVariants as test
use Rattle.train_moves.specs.declared.standing.Standing.{Standing as Met}
use Rattle.line_law.specs.declared.call.Reply.{Reply}
use Rattle.line_law.specs.declared.call.Reply.TheVariants.{Occupied, Passed}
use Rattle.line_law.specs.declared.state.BoxState.{BoxState}
use Rattle.line_law.specs.Decisions.{Decision, Here, or_later}
use Rattle.line_law.specs.LeverEnds.{is_off}
use Rattle.line_law.specs.Tracks.{train_on}
use Rattle.line_law.specs.Trains.{danger_refusal, go, left_by, move, off_refusal, standing_refusal, way_refusal}
use Rattle.box_desk.specs.Steps.{Locally}
use Rattle.box_desk.specs.TrainMoves.{MayGo, gone_to, move_signal}
use Rattle.box_desk.proofs.Standings.{as_law, way_free, way_is}

-- ---- a train that may go

goes_on : (t : Option ℕ) (r : Option Reply) (box_plan : BoxFields) (here : BoxState) (signal : Signal) (train : ℕ)
    → t ≡ Some train → r ≡ None → move t r box_plan here signal ≡ go here (left_by box_plan here signal) train signal.to
goes_on None r box_plan here signal train stands free = absurd cc
goes_on (Some t) (Some reply) box_plan here signal train stands free = absurd cc
goes_on (Some t) None box_plan here signal train stands free =
    let same : t ≡ train = cc in ap (λ (n : ℕ). go here (left_by box_plan here signal) n signal.to) same

passes : (off : Bool) (way : Option Reply) → off ≡ true → way ≡ None → or_later (danger_refusal off) way ≡ None
passes true way is none = none
passes false way is none = absurd cc

overruns : (off : Bool) (way : Option Reply) → off ≡ false → way ≡ None → or_later (off_refusal off) way ≡ None
overruns false way is none = none
overruns true way is none = absurd cc

-- it goes where the signal leads
pub move_goes : (overrun : Bool) (box_plan : BoxFields) (here : BoxState) (signal : Signal) (train : ℕ)
    → train_on here.places signal.from ≡ Some train → is_off here.off signal.lever ≡ not overrun
    → AreEmpty here.places (entered_by signal)
    → move_signal overrun signal box_plan here ≡ go here (left_by box_plan here signal) train signal.to
move_goes false box_plan here signal train stands arm empty =
    goes_on (train_on here.places signal.from) (or_later (danger_refusal (is_off here.off signal.lever))
    (way_refusal here signal)) box_plan here signal train stands
    (passes (is_off here.off signal.lever) (way_refusal here signal) arm (way_free here signal empty))
move_goes true box_plan here signal train stands arm empty =
    goes_on (train_on here.places signal.from) (or_later (off_refusal (is_off here.off signal.lever))
    (way_refusal here signal)) box_plan here signal train stands
    (overruns (is_off here.off signal.lever) (way_refusal here signal) arm (way_free here signal empty))

-- ---- a train that something stands in the way of

stopped_passing : (t : Option ℕ) (off : Bool) (met : Option Met) (way : Option Reply) (box_plan : BoxFields)
    (here : BoxState) (signal : Signal) (place train : ℕ) → standing_refusal (as_law met) ≡ way
    → train_test t off false met ≡ test.Occupied place train
    → move t (or_later (danger_refusal off) way) box_plan here signal ≡ Here (Occupied place train) here
stopped_passing None off met way box_plan here signal place train is told = absurd cc
stopped_passing (Some t) false met way box_plan here signal place train is told = absurd cc
stopped_passing (Some t) true None way box_plan here signal place train is told = absurd cc
stopped_passing (Some t) true (Some there) way box_plan here signal place train is told =
    let at : there.place ≡ place = cc in
    let by : there.train ≡ train = cc in
    rw (sym is, at, by) refl

stopped_overrunning : (t : Option ℕ) (off : Bool) (met : Option Met) (way : Option Reply) (box_plan : BoxFields)
    (here : BoxState) (signal : Signal) (place train : ℕ) → standing_refusal (as_law met) ≡ way
    → train_test t off true met ≡ test.Occupied place train
    → move t (or_later (off_refusal off) way) box_plan here signal ≡ Here (Occupied place train) here
stopped_overrunning None off met way box_plan here signal place train is told = absurd cc
stopped_overrunning (Some t) true met way box_plan here signal place train is told = absurd cc
stopped_overrunning (Some t) false None way box_plan here signal place train is told = absurd cc
stopped_overrunning (Some t) false (Some there) way box_plan here signal place train is told =
    let at : there.place ≡ place = cc in
    let by : there.train ≡ train = cc in
    rw (sym is, at, by) refl

-- a train is stopped by another on its way
pub move_stopped : (overrun : Bool) (box_plan : BoxFields) (here : BoxState) (signal : Signal) (place train : ℕ)
    → move_test here.places signal (is_off here.off signal.lever) overrun ≡ test.Occupied place train
    → move_signal overrun signal box_plan here ≡ Here (Occupied place train) here
move_stopped false box_plan here signal place train told =
    stopped_passing (train_on here.places signal.from) (is_off here.off signal.lever)
    (first_met here.places (entered_by signal)) (way_refusal here signal) box_plan here signal place train
    (way_is here signal) told
move_stopped true box_plan here signal place train told =
    stopped_overrunning (train_on here.places signal.from) (is_off here.off signal.lever)
    (first_met here.places (entered_by signal)) (way_refusal here signal) box_plan here signal place train
    (way_is here signal) told

-- ---- in the box alone

-- what the law decides in the box
pub locally_is : (d : Decision) (old new : BoxState) (reply : Reply) → d ≡ Here reply new
    → Locally d old (Some reply) new
locally_is d old new reply is = subst (λ (e : Decision). Locally e old (Some reply) new) (sym is) (refl, refl)

pub locally_as : (d e : Decision) (old new : BoxState) (told : Option Reply) → d ≡ e → Locally e old told new
    → Locally d old told new
locally_as d e old new told is locally = subst (λ (f : Decision). Locally f old told new) (sym is) locally

-- one at a starter stays: its move is decided at the section
pub stays : (overrun : Bool) (box_plan : BoxFields) (here : BoxState) (signal : Signal) (train : ℕ) (way : Way)
    → MayGo overrun signal train here → signal.to ≡ leads.Section way
    → Locally (move_signal overrun signal box_plan here) here None here
stays overrun box_plan here signal train way may to =
    locally_as _ _ here here None
    (move_goes overrun box_plan here signal train may.stands may.arm may.free
    ∙ ap (λ (end : To). go here (left_by box_plan here signal) train end) to) (refl, refl)

-- whether a signal leads into a section
abbrev pub leads_in : To → Bool
leads_in (leads.Place place) = false
leads_in (leads.Section way) = true
leads_in leads.Away = false

gone_locally : (here left : BoxState) (train : ℕ) (to : To) → leads_in to ≡ false
    → Locally (go here left train to) here (Some (Passed train)) (gone_to to train left)
gone_locally here left train (leads.Place place) off = (refl, refl)
gone_locally here left train (leads.Section way) off = absurd cc
gone_locally here left train leads.Away off = (refl, refl)

-- any other train goes
pub goes_off : (overrun : Bool) (box_plan : BoxFields) (here new : BoxState) (signal : Signal) (train : ℕ)
    → MayGo overrun signal train here → leads_in signal.to ≡ false
    → new ≡ gone_to signal.to train (left_by box_plan here signal)
    → Locally (move_signal overrun signal box_plan here) here (Some (Passed train)) new
goes_off overrun box_plan here new signal train may off is =
    locally_as _ _ here new (Some (Passed train))
    (move_goes overrun box_plan here signal train may.stands may.arm may.free)
    (subst (λ (b : BoxState). Locally (go here (left_by box_plan here signal) train signal.to) here
    (Some (Passed train)) b) (sym is) (gone_locally here (left_by box_plan here signal) train signal.to off))

-- at one place stands one train
pub one_train : (one other : ℕ) → Some one ≡ Some other → one ≡ other
one_train one other same = cc
