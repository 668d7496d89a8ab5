-- The reply of each call tells what is there.
use Rattle.std.proofs.Common.{◌≡◌, ℕ, ◌+◌, ◌≤◌, Bool, true, false, cond, IsTrue, List, [], ◌∷◌, Option, Some, None, All}
use Rattle.std.proofs.Common.{IfSome, length, refl, arith}
use Rattle.std.specs.Prelude.{is_some, ◌==◌}
use Rattle.std.proofs.lemmas.List.Elements.{All-head}
use Rattle.block_words.specs.declared.Position.{Position}
use Rattle.block_words.specs.declared.Way.{Way}
use Rattle.line_plan.specs.Frames.{berth_of, signal_of}
use Rattle.line_plan.specs.Plans.{PlanFields, is_train, train_at}
use Rattle.line_plan.specs.Ways.{comes_in}
use Rattle.line_plan.specs.declared.berth.Berth.{Berth}
use Rattle.line_plan.specs.declared.signal.Signal.{Signal}
use Rattle.line_plan.specs.declared.signal.To.{To}
use Rattle.line_plan.specs.declared.signal.To.TheVariants as leads
use Rattle.line_law.specs.declared.call.Act.{Act}
use Rattle.line_law.specs.declared.call.Act.TheVariants as acts
use Rattle.line_law.specs.declared.call.Reply.{Reply}
use Rattle.line_law.specs.declared.state.BoxState.{BoxState}
use Rattle.line_law.specs.declared.state.PairState.{PairState}
use Rattle.line_law.specs.declared.state.Passage.{Passage}
use Rattle.line_law.specs.Arrivals.{berth, berth_part, berthed, clear_portion_refusal, cleared, first_train}
use Rattle.line_law.specs.Arrivals.{next_number, next_train, parted, train_awaited, train_berthed, train_cleared}
use Rattle.line_law.specs.Arrivals.{train_parted}
use Rattle.line_law.specs.Bells.{awaited, heard, rung}
use Rattle.line_law.specs.Controls.{release_refusal, wind_refusal}
use Rattle.line_law.specs.Decisions.{Decision, OnPlainLine, Told, on_pair, unless}
use Rattle.line_law.specs.Instruments.{same_position, turn, turn_refusal}
use Rattle.line_law.specs.Known.{knows_act, knows_berth}
use Rattle.line_law.specs.Law.{decide, box_plan_of}
use Rattle.line_law.specs.Levers.{is_unspent_clear, pull_at, pull_refusal, pulled, put_refusal, starter_way}
use Rattle.line_law.specs.Ready.{FitsHere}
use Rattle.line_law.specs.Tellings.{IsCode, IsOne, IsTold}
use Rattle.line_law.specs.Tracks.{train_on}
use Rattle.line_law.specs.Trains.{bring_refusal, go, holds, left_by, move, overrun_refusal, overrun_signal}
use Rattle.line_law.specs.Trains.{pass_refusal, pass_signal}
use Rattle.line_law.specs.Ways.{of_way}
use Rattle.line_law.proofs.Found.{both}
use Rattle.line_law.proofs.ToldFacts.{CanTell, MayTell, berth_tells, bring_tells, clear_portion_tells, is_sound}
use Rattle.line_law.proofs.ToldFacts.{one_tells, overrun_tells, pass_tells, pull_tells, put_tells, release_tells}
use Rattle.line_law.proofs.ToldFacts.{stands_one, turn_tells, wind_tells}

-- past the tests of the box, or refused there
unless_tells : (r : Option Reply) (plan : PlanFields) (b m : ℕ) (here : BoxState) (rest : Decision) (way : Way)
    (pair : PairState) → MayTell plan b m r → IsTold plan b m (on_pair way rest pair).reply
    → IsTold plan b m (on_pair way (unless r here rest) pair).reply
unless_tells (Some reply) plan b m here rest way pair h g = h
unless_tells None plan b m here rest way pair h g = g

reply_of : {W : Type 0} (t : Bool) (P : Reply → Type 0) (x y : Told W) → P x.reply → P y.reply → P (cond t x y).reply
reply_of true P x y p q = p
reply_of false P x y p q = q

-- ---- bells

rung_tells : (plan : PlanFields) (b m : ℕ) (here : BoxState) (side : Way) (code count : ℕ) (u : Option ℕ)
    → count + 1 ≤ m → IfSome u (IsCode plan) → IsTold plan b m (rung here side code count u).reply
unfolding IsTold
rung_tells plan b m here side code count (Some held) few shown = (omega (arith, few), shown)
rung_tells plan b m here side code count None few shown = few

heard_tells : (plan : PlanFields) (b m : ℕ) (here : BoxState) (count : ℕ) (u : Option ℕ) → count + 1 ≤ m
    → IfSome u (IsCode plan) → IsTold plan b m (heard here count u).reply
unfolding IsTold
heard_tells plan b m here count (Some held) few shown = (omega (arith, few), shown)
heard_tells plan b m here count None few shown = omega (arith, few)

awaited_tells : (plan : PlanFields) (b m : ℕ) (here : BoxState) (code count : ℕ) (u : Option ℕ) → count + 1 ≤ m
    → IfSome u (IsCode plan) → IsTold plan b m (awaited here code count u).reply
unfolding IsTold
awaited_tells plan b m here code count (Some held) few shown =
    reply_of (held == code) (IsTold plan b m) _ _ (omega (arith, few), shown) (omega (arith, few), shown)
awaited_tells plan b m here code count None few shown = (omega (arith, few), tt)

-- ---- instruments and levers

known_berth : (plan : PlanFields) (b : ℕ) (way : Way) → IsTrue (knows_berth plan b way)
    → IsTrue (is_some (berth_of (box_plan_of plan b) way))
known_berth plan b way h = (both (comes_in (length plan.boxes) b way) (is_some (berth_of (box_plan_of plan b) way)) h).1

turn_told : (o : Option Berth) (plan : PlanFields) (b n m : ℕ) (here : BoxState) (pair : PairState) (v way : Way)
    (position : Position) → CanTell plan b n m here pair → berth_of (box_plan_of plan b) way ≡ o → IsTrue (is_some o)
    → IsTold plan b m (on_pair v (turn o here way position) pair).reply
unfolding IsTold
turn_told None plan b n m here pair v way position is e some = tt
turn_told (Some berth) plan b n m here pair v way position is e some =
    unless_tells (turn_refusal here berth (of_way here.incoming way) position) plan b m here _ v pair
    (turn_tells plan b n m here pair way berth position is e) (omega (arith, is.words.blocks v, is.calls))

pull_told : (w : Option Way) (plan : PlanFields) (b n m : ℕ) (here after : BoxState) (pair : PairState) (v : Way)
    → CanTell plan b n m here pair → IsTold plan b m (on_pair v (pull_at here after w) pair).reply
unfolding IsTold
pull_told None plan b n m here after pair v is = tt
pull_told (Some way) plan b n m here after pair v is =
    reply_of (is_unspent_clear (of_way pair.blocks v)) (IsTold plan b m) _ _
    (omega (arith, is.words.blocks v, is.calls)) (omega (arith, is.words.blocks v, is.calls))

-- ---- trains

go_told : (to : To) (plan : PlanFields) (b n m : ℕ) (here left : BoxState) (pair : PairState) (v : Way) (train : ℕ)
    → CanTell plan b n m here pair → IsOne plan train → IsTold plan b m (on_pair v (go here left train to) pair).reply
unfolding IsTold
go_told (leads.Place place) plan b n m here left pair v train is one = one
go_told (leads.Section way) plan b n m here left pair v train is one =
    reply_of (holds (of_way pair.lines v) (of_way here.sent way + 1)) (IsTold plan b m) _ _
    (omega (arith, is.box.counts.sent way, is.calls)) (omega (arith, is.box.counts.sent way, is.calls), one)
go_told leads.Away plan b n m here left pair v train is one = one

move_told : (t : Option ℕ) (r : Option Reply) (plan : PlanFields) (b n m : ℕ) (here : BoxState) (pair : PairState)
    (v : Way) (signal : Signal) → CanTell plan b n m here pair → IfSome t (IsOne plan) → MayTell plan b m r
    → IsTold plan b m (on_pair v (move t r (box_plan_of plan b) here signal) pair).reply
unfolding IsTold
move_told None r plan b n m here pair v signal is one refusal = tt
move_told (Some train) (Some reply) plan b n m here pair v signal is one refusal = refusal
move_told (Some train) None plan b n m here pair v signal is one refusal =
    go_told signal.to plan b n m here (left_by (box_plan_of plan b) here signal) pair v train is one

pass_told : (s : Option Signal) (plan : PlanFields) (b n m : ℕ) (here : BoxState) (pair : PairState) (v : Way)
    (lever : ℕ) → CanTell plan b n m here pair → signal_of (box_plan_of plan b) lever ≡ s
    → IsTold plan b m (on_pair v (pass_signal s (box_plan_of plan b) here) pair).reply
unfolding IsTold
pass_told None plan b n m here pair v lever is e = tt
pass_told (Some signal) plan b n m here pair v lever is e =
    move_told (train_on here.places signal.from) (pass_refusal here signal) plan b n m here pair v signal is
    (stands_one plan b n m here pair signal.from is ((is_sound plan b n m here pair is).signal lever signal e).from)
    (pass_tells plan b n m here pair lever signal is e)

overrun_told : (s : Option Signal) (plan : PlanFields) (b n m : ℕ) (here : BoxState) (pair : PairState) (v : Way)
    (lever : ℕ) → CanTell plan b n m here pair → signal_of (box_plan_of plan b) lever ≡ s
    → IsTold plan b m (on_pair v (overrun_signal s (box_plan_of plan b) here) pair).reply
unfolding IsTold
overrun_told None plan b n m here pair v lever is e = tt
overrun_told (Some signal) plan b n m here pair v lever is e =
    move_told (train_on here.places signal.from) (overrun_refusal here signal) plan b n m here pair v signal is
    (stands_one plan b n m here pair signal.from is ((is_sound plan b n m here pair is).signal lever signal e).from)
    (overrun_tells plan b n m here pair lever signal is e)

-- ---- arrivals

-- the first train of a plain line is one of the plan
pub first_one : (plan : PlanFields) (j : ℕ) (line : List Passage)
    → All (λ passage. IsTrue (is_train plan.trains passage.train)) line → IfSome (first_train j line) (IsOne plan)
first_one plan j [] all = tt
first_one plan j (first ∷ rest) all =
    one_tells (IsOne plan) (first.number == j) (Some first.train) None
    (All-head (λ passage. IsTrue (is_train plan.trains passage.train)) first rest all) tt

awaits_tells : (o : Option ℕ) (plan : PlanFields) (b m : ℕ) (here : BoxState) (j : ℕ) (line : List Passage) → j ≤ m
    → IfSome o (IsOne plan) → IsTold plan b m (train_awaited o here j line).reply
unfolding IsTold
awaits_tells None plan b m here j line few one = few
awaits_tells (Some train) plan b m here j line few one = (few, one)

berthed_tells : (o : Option ℕ) (plan : PlanFields) (b m : ℕ) (here : BoxState) (way : Way) (place j : ℕ)
    (line : List Passage) → j ≤ m → IfSome o (IsOne plan)
    → IsTold plan b m (train_berthed o here way place j line).reply
unfolding IsTold
berthed_tells None plan b m here way place j line few one = few
berthed_tells (Some train) plan b m here way place j line few one = (few, one)

parted_tells : (o : Option ℕ) (plan : PlanFields) (b m : ℕ) (here : BoxState) (way : Way) (place j : ℕ)
    (line : List Passage) → j ≤ m → IfSome o (IsOne plan) → IsTold plan b m (train_parted o here way place j line).reply
unfolding IsTold
parted_tells None plan b m here way place j line few one = few
parted_tells (Some train) plan b m here way place j line few one = (few, one)

cleared_tells : (o : Option ℕ) (plan : PlanFields) (b m : ℕ) (here : BoxState) (way : Way) (j : ℕ) (line : List Passage)
    → j ≤ m → IfSome o (IsOne plan) → IsTold plan b m (train_cleared o here way j line).reply
unfolding IsTold
cleared_tells None plan b m here way j line few one = few
cleared_tells (Some train) plan b m here way j line few one = (few, one)

next_few : (plan : PlanFields) (b n m : ℕ) (here : BoxState) (pair : PairState) (way : Way)
    → CanTell plan b n m here pair → next_number here way ≤ m
next_few plan b n m here pair way is = omega (arith, is.box.counts.taken way, is.calls)

next_one : (plan : PlanFields) (b n m : ℕ) (here : BoxState) (pair : PairState) (v way : Way)
    → CanTell plan b n m here pair → IfSome (next_train here way (of_way pair.lines v)) (IsOne plan)
next_one plan b n m here pair v way is = first_one plan (next_number here way) (of_way pair.lines v) (is.words.lines v)

berth_told : (o : Option Berth) (plan : PlanFields) (b n m : ℕ) (here : BoxState) (pair : PairState) (v way : Way)
    → CanTell plan b n m here pair → berth_of (box_plan_of plan b) way ≡ o → IsTrue (is_some o)
    → IsTold plan b m (on_pair v (berth o here way) pair).reply
berth_told None plan b n m here pair v way is e some = absurd cc
berth_told (Some berth_plan) plan b n m here pair v way is e some =
    unless_tells _ plan b m here (OnPlainLine (berthed here way berth_plan.place)) v pair
    (berth_tells plan b n m here pair way berth_plan is e)
    (berthed_tells (next_train here way (of_way pair.lines v)) plan b m here way berth_plan.place (next_number here way)
    (of_way pair.lines v) (next_few plan b n m here pair way is) (next_one plan b n m here pair v way is))

part_told : (o : Option Berth) (plan : PlanFields) (b n m : ℕ) (here : BoxState) (pair : PairState) (v way : Way)
    → CanTell plan b n m here pair → berth_of (box_plan_of plan b) way ≡ o → IsTrue (is_some o)
    → IsTold plan b m (on_pair v (berth_part o here way) pair).reply
part_told None plan b n m here pair v way is e some = absurd cc
part_told (Some berth_plan) plan b n m here pair v way is e some =
    unless_tells _ plan b m here (OnPlainLine (parted here way berth_plan.place)) v pair
    (berth_tells plan b n m here pair way berth_plan is e)
    (parted_tells (next_train here way (of_way pair.lines v)) plan b m here way berth_plan.place (next_number here way)
    (of_way pair.lines v) (next_few plan b n m here pair way is) (next_one plan b n m here pair v way is))

-- ---- any call

-- the reply of a known call that fits the box tells what is there
pub told : (act : Act) (plan : PlanFields) (b n m : ℕ) (here : BoxState) (pair : PairState) (v : Way)
    → CanTell plan b n m here pair → IsTrue (knows_act plan b act) → FitsHere plan (box_plan_of plan b) act
    → IsTold plan b m (on_pair v (decide plan (box_plan_of plan b) act here) pair).reply
unfolding IsTold
told (acts.Ring side code) plan b n m here pair v is known fits =
    rung_tells plan b m here side code (of_way pair.bells v).count (of_way pair.bells v).unheard
    (omega (arith, is.words.bells v, is.calls)) (is.shown v)
told (acts.Hear side) plan b n m here pair v is known fits =
    heard_tells plan b m here (of_way pair.bells v).count (of_way pair.bells v).unheard
    (omega (arith, is.words.bells v, is.calls)) (is.shown v)
told (acts.AwaitBell side code) plan b n m here pair v is known fits =
    awaited_tells plan b m here code (of_way pair.bells v).count (of_way pair.bells v).unheard
    (omega (arith, is.words.bells v, is.calls)) (is.shown v)
told (acts.Turn way position) plan b n m here pair v is known fits =
    turn_told (berth_of (box_plan_of plan b) way) plan b n m here pair v way position is refl
    (known_berth plan b way known)
told (acts.AwaitBlock way position) plan b n m here pair v is known fits =
    reply_of (same_position (of_way pair.blocks v).position position) (IsTold plan b m) _ _
    (omega (arith, is.words.blocks v, is.calls)) (omega (arith, is.words.blocks v, is.calls))
told (acts.Pull lever) plan b n m here pair v is known fits =
    unless_tells (pull_refusal (box_plan_of plan b) here lever) plan b m here _ v pair
    (pull_tells plan b n m here pair lever is)
    (pull_told (starter_way (signal_of (box_plan_of plan b) lever)) plan b n m here
    (pulled here lever (signal_of (box_plan_of plan b) lever)) pair v is)
told (acts.Put lever) plan b n m here pair v is known fits =
    unless_tells (put_refusal (box_plan_of plan b) here lever) plan b m here _ v pair
    (put_tells plan b n m here pair lever is) tt
told (acts.Bring train) plan b n m here pair v is known fits =
    unless_tells (bring_refusal here train (train_at plan.trains train).place) plan b m here _ v pair
    (bring_tells plan b n m here pair train _ is fits.1) tt
told (acts.Pass lever) plan b n m here pair v is known fits =
    pass_told (signal_of (box_plan_of plan b) lever) plan b n m here pair v lever is refl
told (acts.Overrun lever) plan b n m here pair v is known fits =
    overrun_told (signal_of (box_plan_of plan b) lever) plan b n m here pair v lever is refl
told (acts.AwaitTrain way) plan b n m here pair v is known fits =
    awaits_tells (next_train here way (of_way pair.lines v)) plan b m here (next_number here way) (of_way pair.lines v)
    (next_few plan b n m here pair way is) (next_one plan b n m here pair v way is)
told (acts.Berth way) plan b n m here pair v is known fits =
    berth_told (berth_of (box_plan_of plan b) way) plan b n m here pair v way is refl (known_berth plan b way known)
told (acts.BerthPart way) plan b n m here pair v is known fits =
    part_told (berth_of (box_plan_of plan b) way) plan b n m here pair v way is refl (known_berth plan b way known)
told (acts.ClearPortion way) plan b n m here pair v is known fits =
    unless_tells (clear_portion_refusal (of_way here.incoming way).portion) plan b m here
    (OnPlainLine (cleared here way)) v pair (clear_portion_tells plan b m _)
    (cleared_tells (next_train here way (of_way pair.lines v)) plan b m here way (next_number here way)
    (of_way pair.lines v) (next_few plan b n m here pair way is) (next_one plan b n m here pair v way is))
told (acts.Wind way) plan b n m here pair v is known fits =
    unless_tells (wind_refusal (of_way here.incoming way)) plan b m here _ v pair
    (wind_tells plan b m (of_way here.incoming way)) (omega (arith, is.moment))
told (acts.Release way) plan b n m here pair v is known fits =
    unless_tells (release_refusal here.moment (of_way here.incoming way).ready_at) plan b m here _ v pair
    (release_tells plan b m here.moment _ (is.tells way).ready) tt
