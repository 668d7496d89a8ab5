-- What a box and a pair have to tell, and what each refusal tells.
use Rattle.std.proofs.Common.{◌≡◌, ℕ, ◌+◌, ◌<◌, ◌≤◌, Bool, true, false, cond, IsTrue, List, [], ◌∷◌, Option, Some, None}
use Rattle.std.proofs.Common.{All, IfSome, length, map, refl, subst, arith, eqb, eq-eqb}
use Rattle.std.specs.Prelude.{nat_lt, is_some, option_map, ◌==◌}
use Rattle.std.specs.List.{find}
use Rattle.std.proofs.lemmas.List.Elements.{All-head, All-tail, All-nil, All-cons, All-filter, All-map, All-weaker}
use Rattle.block_words.specs.declared.Position.{Position}
use Rattle.block_words.specs.declared.Position.TheVariants as shows
use Rattle.block_words.specs.declared.Way.{Way}
use Rattle.block_words.specs.declared.WelwynState.{WelwynState}
use Rattle.block_words.specs.declared.WelwynState.TheVariants as welwyn
use Rattle.locking_table.specs.Meaning.{first_holder, holding_lever, row_allows}
use Rattle.locking_table.specs.declared.places.End.{End}
use Rattle.locking_table.specs.declared.row.Holder.{Holder}
use Rattle.locking_table.specs.declared.row.Row.{Row}
use Rattle.line_plan.specs.Frames.{BoxFields, begins_at, berth_of, homes_of, is_working, kind_of, lever_of, signal_of}
use Rattle.line_plan.specs.Frames.{track_of}
use Rattle.line_plan.specs.Plans.{IsBox, IsBoxRow, IsWorking, PlanFields}
use Rattle.line_plan.specs.Sections.{most_of}
use Rattle.line_plan.specs.declared.berth.Berth.{Berth}
use Rattle.line_plan.specs.declared.frame.Kind.{Kind}
use Rattle.line_plan.specs.declared.frame.Kind.TheVariants as kinds
use Rattle.line_plan.specs.declared.frame.Lever.{Lever}
use Rattle.line_plan.specs.declared.signal.Signal.{Signal}
use Rattle.line_law.specs.declared.call.Reply.{Reply}
use Rattle.line_law.specs.declared.state.BoxState.{BoxState}
use Rattle.line_law.specs.declared.state.Control.{Control}
use Rattle.line_law.specs.declared.state.Control.TheVariants.{Absolute, Permissive}
use Rattle.line_law.specs.declared.state.Incoming.{Incoming}
use Rattle.line_law.specs.declared.state.PairState.{PairState}
use Rattle.line_law.specs.declared.tracks.Standing.{Standing}
use Rattle.line_law.specs.Arrivals.{berth_occupied, berth_refusal, clear_portion_refusal, portion_refusal}
use Rattle.line_law.specs.Controls.{normal_refusal, release_refusal, soon_refusal, wind_refusal, winding_refusal}
use Rattle.line_law.specs.Decisions.{or_later}
use Rattle.line_law.specs.Instruments.{clear_refusal, clearing_refusal, control_refusal, from_refusal, home_refusal}
use Rattle.line_law.specs.Instruments.{position_refusal, same_position, turn_refusal, welwyn_refusal}
use Rattle.line_law.specs.Known.{moments_of}
use Rattle.line_law.specs.Law.{box_plan_of}
use Rattle.line_law.specs.Levers.{lock_refusal, pull_refusal, put_refusal, row_refusal, spare_refusal, track_refusal}
use Rattle.line_law.specs.Lines.{FitsLine, IsBoxAfter, IsControlOf, IsPairAfter}
use Rattle.line_law.specs.Sound.{IsSound}
use Rattle.line_law.specs.Tellings.{HasLever, IsCode, IsOne, IsReadyMoment, IsStand, IsTold}
use Rattle.line_law.specs.LeverEnds.{first_reversed, is_pulled}
use Rattle.line_law.specs.Tracks.{first_standing, standing_at, train_on}
use Rattle.line_law.specs.Trains.{bring_refusal, danger_refusal, end_of, off_refusal, overrun_refusal, pass_refusal}
use Rattle.line_law.specs.Trains.{place_refusal, standing_refusal, was_brought, way_refusal}
use Rattle.line_law.specs.Ways.{of_way}
use Rattle.line_law.proofs.Boxes.{stands_is}
use Rattle.line_law.proofs.PlanFacts.{berth_is, sound}

-- ---- what there is to tell

-- a release that was begun on an incoming line may come in time, and its portion is of a train of the plan
pub record LineTells (plan : PlanFields) (line : Incoming) : Type 0 where
  pub ready : IfSome line.ready_at (IsReadyMoment plan)
  pub portion : IfSome line.portion (IsOne plan)

-- each incoming line of a box is so
abbrev pub BoxTells : PlanFields → BoxState → Type 0
BoxTells plan here = (way : Way) → LineTells plan (of_way here.incoming way)

-- an unheard code of a pair's bells is in the code table
abbrev pub PairTells : PlanFields → PairState → Type 0
PairTells plan pair = (way : Way) → IfSome (of_way pair.bells way).unheard (IsCode plan)

-- box b and a pair after n calls, of which box b makes the next at a moment of the day; m calls are no fewer than those
-- with it
pub record CanTell (plan : PlanFields) (b n m : ℕ) (here : BoxState) (pair : PairState) : Type 0 where
  pub calls : n + 1 ≤ m
  pub of_plan : IsBox (length plan.boxes) b (box_plan_of plan b)
  pub box : IsBoxAfter plan.trains (box_plan_of plan b) n here
  pub words : IsPairAfter plan.trains n pair
  pub tells : BoxTells plan here
  pub shown : PairTells plan pair
  pub moment : here.moment < moments_of plan.version

-- what a refusal tells, if there is one
abbrev pub MayTell : PlanFields → ℕ → ℕ → Option Reply → Type 0
MayTell plan b m refusal = IfSome refusal (IsTold plan b m)

-- a box that can tell is sound
pub is_sound : (plan : PlanFields) (b n m : ℕ) (here : BoxState) (pair : PairState) → CanTell plan b n m here pair
    → IsSound (box_plan_of plan b)
is_sound plan b n m here pair is = sound (length plan.boxes) b (box_plan_of plan b) is.of_plan

-- ---- two refusals

-- what holds of both reasons for a refusal holds of the first
pub or_tells : (P : Reply → Type 0) (r s : Option Reply) → IfSome r P → IfSome s P → IfSome (or_later r s) P
or_tells P (Some reply) s h g = h
or_tells P None s h g = g

-- what holds of both holds of the one that a test chooses
pub one_tells : {A : Type 0} (P : A → Type 0) (t : Bool) (r s : Option A) → IfSome r P → IfSome s P
    → IfSome (cond t r s) P
one_tells P true r s h g = h
one_tells P false r s h g = g

-- ---- places

abbrev StandsIn : PlanFields → ℕ → Standing → Type 0
StandsIn plan b there = IsStand plan b there.place there.train

pub first_stands : (plan : PlanFields) (b n m : ℕ) (here : BoxState) (pair : PairState) (places : List ℕ)
    → CanTell plan b n m here pair → All (λ place. place < length (box_plan_of plan b).places) places
    → IfSome (first_standing here.places places) (StandsIn plan b)
first_stands plan b n m here pair [] is all = tt
first_stands plan b n m here pair (p ∷ ps) is all =
    go (train_on here.places p) refl
    (first_stands plan b n m here pair ps is (All-tail (λ place. place < length (box_plan_of plan b).places) p ps all))
  where
    within : p < length (box_plan_of plan b).places
    within = All-head (λ place. place < length (box_plan_of plan b).places) p ps all

    go : (t : Option ℕ) → train_on here.places p ≡ t → IfSome (first_standing here.places ps) (StandsIn plan b)
        → IfSome (standing_at t p (first_standing here.places ps)) (StandsIn plan b)
    go None e later = later
    go (Some train) e later = (
      within,
      stands_is plan.trains here.places p train (omega (arith, within, is.box.shape.frame.places))
          is.box.shape.occupants e,
    )

-- the train at a place of the box is one of the plan
pub stands_one : (plan : PlanFields) (b n m : ℕ) (here : BoxState) (pair : PairState) (place : ℕ)
    → CanTell plan b n m here pair → place < length (box_plan_of plan b).places
    → IfSome (train_on here.places place) (IsOne plan)
stands_one plan b n m here pair place is within = go (train_on here.places place) refl where
  go : (t : Option ℕ) → train_on here.places place ≡ t → IfSome t (IsOne plan)
  go None e = tt
  go (Some train) e =
      stands_is plan.trains here.places place train (omega (arith, within, is.box.shape.frame.places))
      is.box.shape.occupants e

clearing_tells : (plan : PlanFields) (b m : ℕ) (s : Option Standing) → IfSome s (StandsIn plan b)
    → MayTell plan b m (clearing_refusal s)
unfolding IsTold
clearing_tells plan b m None h = tt
clearing_tells plan b m (Some there) h = h

track_tells : (plan : PlanFields) (b m : ℕ) (s : Option Standing) → IfSome s (StandsIn plan b)
    → MayTell plan b m (track_refusal s)
unfolding IsTold
track_tells plan b m None h = tt
track_tells plan b m (Some there) h = h

standing_tells : (plan : PlanFields) (b m : ℕ) (s : Option Standing) → IfSome s (StandsIn plan b)
    → MayTell plan b m (standing_refusal s)
unfolding IsTold
standing_tells plan b m None h = tt
standing_tells plan b m (Some there) h = h

-- ---- levers

-- the frame has the lever
abbrev InFrame : List Lever → ℕ → Type 0
InFrame levers n = IsTrue (is_some (find (λ lever. lever.number == n) levers))

in_more : (first : Lever) (levers : List Lever) (n : ℕ) → InFrame levers n → InFrame (first ∷ levers) n
in_more first levers n h = go (first.number == n) where
  go : (t : Bool) → IsTrue (is_some (cond t (Some first) (find (λ lever. lever.number == n) levers)))
  go true = refl
  go false = h

in_first : (first : Lever) (levers : List Lever) → InFrame (first ∷ levers) first.number
in_first first levers = let e : eqb first.number first.number ≡ true =
    eq-eqb first.number first.number refl in rw e refl

each_in : (levers : List Lever) → All (λ (lever : Lever). InFrame levers lever.number) levers
each_in [] = All-nil (λ (lever : Lever). InFrame [] lever.number)
each_in (l ∷ ls) =
    All-cons (λ (lever : Lever). InFrame (l ∷ ls) lever.number) l ls (in_first l ls)
    (All-weaker (λ (lever : Lever). InFrame ls lever.number) (λ (lever : Lever). InFrame (l ∷ ls) lever.number)
    (λ lever h. in_more l ls lever.number h) ls (each_in ls))

-- the homes of a place are levers of the frame
homes_in : (bp : BoxFields) (place : ℕ) → All (InFrame bp.levers) (homes_of bp place)
homes_in bp place =
    All-map (InFrame bp.levers) (λ (lever : Lever). lever.number) _
    (All-filter (begins_at bp place) (λ (lever : Lever). InFrame bp.levers lever.number) bp.levers
    (each_in bp.levers))

working_in : (bp : BoxFields) (n : ℕ) → IsWorking bp n → InFrame bp.levers n
working_in bp n h = go (lever_of bp n) h where
  go : (l : Option Lever) → IsTrue (is_working (option_map (λ (lever : Lever). lever.kind) l)) → IsTrue (is_some l)
  go None f = absurd cc
  go (Some lever) f = refl

reversed_is : (P : ℕ → Type 0) (ends : List End) (levers : List ℕ) → All P levers
    → IfSome (first_reversed ends levers) P
reversed_is P ends [] all = tt
reversed_is P ends (l ∷ ls) all =
    one_tells P (is_pulled ends l) (Some l) (first_reversed ends ls) (All-head P l ls all)
    (reversed_is P ends ls (All-tail P l ls all))

home_tells : (plan : PlanFields) (b m : ℕ) (o : Option ℕ) → IfSome o (HasLever plan b)
    → MayTell plan b m (home_refusal o)
unfolding IsTold
home_tells plan b m None h = tt
home_tells plan b m (Some lever) h = h

-- ---- rows

-- the holder's row is one of so many from a number on, and its lever one of which this holds
record HoldsIn (K : ℕ → Type 0) (from count : ℕ) (holder : Holder) : Type 0 where
  low : from ≤ holder.row
  high : holder.row < from + count
  lever : K holder.lever

-- the subject and the object of a row
record Both (K : ℕ → Type 0) (row : Row) : Type 0 where
  subject : K row.subject
  object : K row.object

names_one : (K : ℕ → Type 0) (row : Row) (lever : ℕ) → Both K row → K (holding_lever row lever)
names_one K row lever h = go (row.subject == lever) where
  go : (t : Bool) → K (cond t row.object row.subject)
  go true = h.object
  go false = h.subject

later_in : (K : ℕ → Type 0) (from count : ℕ) (o : Option Holder) → IfSome o (HoldsIn K (from + 1) count)
    → IfSome o (HoldsIn K from (count + 1))
later_in K from count None h = tt
later_in K from count (Some holder) h =
    record { low = omega (arith, h.low); high = omega (arith, h.high); lever = h.lever }

holder_is : (K : ℕ → Type 0) (ends : List End) (lever from : ℕ) (rows : List Row) → All (Both K) rows
    → IfSome (first_holder ends lever from rows) (HoldsIn K from (length rows))
holder_is K ends lever from [] all = tt
holder_is K ends lever from (row ∷ rows) all =
    let count : length (row ∷ rows) ≡ length rows + 1 = omega arith in
    one_tells (HoldsIn K from (length (row ∷ rows))) (row_allows ends lever row)
    (first_holder ends lever (from + 1) rows) (Some (record { lever = holding_lever row lever; row = from }))
    (rw count
    (later_in K from (length rows) (first_holder ends lever (from + 1) rows)
    (holder_is K ends lever (from + 1) rows (All-tail (Both K) row rows all))))
    (record {
      low = omega arith;
      high = omega (arith, count);
      lever =
          names_one K row lever (All-head (Both K) row rows all);
    })

row_both : (bp : BoxFields) (row : Row) → IsBoxRow bp row → Both (InFrame bp.levers) row
row_both bp row h =
    let later : List ℕ = map (λ cond. cond.lever) row.when in
    let rest : All (IsWorking bp) (row.object ∷ later) =
    All-tail (IsWorking bp) row.subject (row.object ∷ later) h.levers in
    record {
      subject = working_in bp row.subject (All-head (IsWorking bp) row.subject (row.object ∷ later) h.levers);
      object = working_in bp row.object (All-head (IsWorking bp) row.object later rest);
    }

row_tells : (plan : PlanFields) (b m : ℕ) (o : Option Holder)
    → IfSome o (HoldsIn (HasLever plan b) 1 (length (box_plan_of plan b).rows)) → MayTell plan b m (row_refusal o)
unfolding IsTold
row_tells plan b m None h = tt
row_tells plan b m (Some holder) h = (h.lever, (h.low, omega (arith, h.high)))

lock_tells : (plan : PlanFields) (b n m : ℕ) (here : BoxState) (pair : PairState) (lever : ℕ)
    → CanTell plan b n m here pair → MayTell plan b m (lock_refusal (box_plan_of plan b) here lever)
lock_tells plan b n m here pair lever is =
    let bp = box_plan_of plan b in
    or_tells (IsTold plan b m) _ _
    (row_tells plan b m _
    (holder_is (HasLever plan b) here.ends lever 1 bp.rows
    (All-weaker (IsBoxRow bp) (Both (HasLever plan b)) (row_both bp) bp.rows is.of_plan.rows)))
    (track_tells plan b m _
    (first_stands plan b n m here pair (track_of bp lever) is ((is_sound plan b n m here pair is).track lever)))

spare_tells : (plan : PlanFields) (b m : ℕ) (k : Option Kind) → MayTell plan b m (spare_refusal k)
unfolding IsTold
spare_tells plan b m (Some kinds.Spare) = tt
spare_tells plan b m kind = tt

-- what a pull is refused with tells what is there
pub pull_tells : (plan : PlanFields) (b n m : ℕ) (here : BoxState) (pair : PairState) (lever : ℕ)
    → CanTell plan b n m here pair → MayTell plan b m (pull_refusal (box_plan_of plan b) here lever)
unfolding IsTold
pull_tells plan b n m here pair lever is =
    one_tells (IsTold plan b m) (is_pulled here.ends lever) _ _ tt
    (or_tells (IsTold plan b m) _ _ (spare_tells plan b m (kind_of (box_plan_of plan b) lever))
    (lock_tells plan b n m here pair lever is))

-- what putting a lever back is refused with tells what is there
pub put_tells : (plan : PlanFields) (b n m : ℕ) (here : BoxState) (pair : PairState) (lever : ℕ)
    → CanTell plan b n m here pair → MayTell plan b m (put_refusal (box_plan_of plan b) here lever)
unfolding IsTold
put_tells plan b n m here pair lever is =
    one_tells (IsTold plan b m) (is_pulled here.ends lever) _ _ (lock_tells plan b n m here pair lever is) tt

-- ---- a turn of the commutator

few_out : (n : Option ℕ) (out : ℕ) → FitsLine n (Permissive out) → IfSome n (λ k. k ≤ 3) → out ≤ 3
few_out None out h few = absurd h
few_out (Some n) out h few = omega (arith, h, few)

welwyn_tells : (plan : PlanFields) (b m : ℕ) (state : WelwynState) → MayTell plan b m (welwyn_refusal state)
unfolding IsTold
welwyn_tells plan b m welwyn.Ready = tt
welwyn_tells plan b m state = tt

from_tells : (plan : PlanFields) (b m : ℕ) (position : Position) → MayTell plan b m (from_refusal position)
unfolding IsTold
from_tells plan b m shows.Normal = tt
from_tells plan b m position = tt

control_tells : (plan : PlanFields) (b n m : ℕ) (here : BoxState) (pair : PairState) (way : Way) (berth : Berth)
    (c : Control) → CanTell plan b n m here pair → berth_of (box_plan_of plan b) way ≡ Some berth
    → FitsLine berth.permissive c
    → MayTell plan b m (control_refusal c here berth)
unfolding IsTold
control_tells plan b n m here pair way berth (Absolute state) is e fits =
    let says = (is_sound plan b n m here pair is).berth way berth e in
    or_tells (IsTold plan b m) _ _
    (clearing_tells plan b m _
    (first_stands plan b n m here pair (berth.place ∷ berth.clearing) is
    (All-cons (λ place. place < length (box_plan_of plan b).places) berth.place berth.clearing says.place
    says.clearing)))
    (welwyn_tells plan b m state)
control_tells plan b n m here pair way berth (Permissive out) is e fits =
    let says = (is_sound plan b n m here pair is).berth way berth e in
    one_tells (IsTold plan b m) (out == most_of berth.permissive) _ _ (few_out berth.permissive out fits says.few) tt

clear_tells : (plan : PlanFields) (b n m : ℕ) (here : BoxState) (pair : PairState) (way : Way) (berth : Berth)
    → CanTell plan b n m here pair → berth_of (box_plan_of plan b) way ≡ Some berth
    → MayTell plan b m (clear_refusal here berth (of_way here.incoming way))
clear_tells plan b n m here pair way berth is e =
    let bp = box_plan_of plan b in
    let fits : IsControlOf (Some berth) (of_way here.incoming way).control =
    subst (λ (o : Option Berth). IsControlOf o (of_way here.incoming way).control) e (is.box.shape.controls way) in
    let homes : All (HasLever plan b) berth.homes =
    rw (berth_is (length plan.boxes) b bp way berth is.of_plan e).homes (homes_in bp berth.place) in
    or_tells (IsTold plan b m) _ _ (from_tells plan b m (of_way here.incoming way).position)
    (or_tells (IsTold plan b m) _ _ (home_tells plan b m _ (reversed_is (HasLever plan b) here.ends berth.homes homes))
    (control_tells plan b n m here pair way berth (of_way here.incoming way).control is e fits))

position_tells : (position : Position) (plan : PlanFields) (b n m : ℕ) (here : BoxState) (pair : PairState) (way : Way)
    (berth : Berth) → CanTell plan b n m here pair → berth_of (box_plan_of plan b) way ≡ Some berth
    → MayTell plan b m (position_refusal position here berth (of_way here.incoming way))
position_tells shows.LineClear plan b n m here pair way berth is e = clear_tells plan b n m here pair way berth is e
position_tells position plan b n m here pair way berth is e = tt

-- what a turn is refused with tells what is there
pub turn_tells : (plan : PlanFields) (b n m : ℕ) (here : BoxState) (pair : PairState) (way : Way) (berth : Berth)
    (position : Position) → CanTell plan b n m here pair → berth_of (box_plan_of plan b) way ≡ Some berth
    → MayTell plan b m (turn_refusal here berth (of_way here.incoming way) position)
unfolding IsTold
turn_tells plan b n m here pair way berth position is e =
    one_tells (IsTold plan b m) (same_position (of_way here.incoming way).position position) _ _ tt
    (position_tells position plan b n m here pair way berth is e)

-- ---- trains

-- what bringing a train is refused with tells what is there
pub bring_tells : (plan : PlanFields) (b n m : ℕ) (here : BoxState) (pair : PairState) (train place : ℕ)
    → CanTell plan b n m here pair → place < length (box_plan_of plan b).places
    → MayTell plan b m (bring_refusal here train place)
unfolding IsTold
bring_tells plan b n m here pair train place is within =
    one_tells (IsTold plan b m) (was_brought here.brought train) _ _ tt
    (go (train_on here.places place) (stands_one plan b n m here pair place is within)) where
      go : (t : Option ℕ) → IfSome t (IsOne plan) → MayTell plan b m (place_refusal place t)
      go None one = tt
      go (Some there) one = (within, one)

way_tells : (plan : PlanFields) (b n m : ℕ) (here : BoxState) (pair : PairState) (lever : ℕ) (signal : Signal)
    → CanTell plan b n m here pair → signal_of (box_plan_of plan b) lever ≡ Some signal
    → MayTell plan b m (way_refusal here signal)
way_tells plan b n m here pair lever signal is e =
    let says = (is_sound plan b n m here pair is).signal lever signal e in
    or_tells (IsTold plan b m) _ _
    (standing_tells plan b m _ (first_stands plan b n m here pair signal.over is says.over))
    (standing_tells plan b m _ (first_stands plan b n m here pair (end_of signal.to) is says.to))

danger_tells : (plan : PlanFields) (b m : ℕ) (off : Bool) → MayTell plan b m (danger_refusal off)
unfolding IsTold
danger_tells plan b m true = tt
danger_tells plan b m false = tt

off_tells : (plan : PlanFields) (b m : ℕ) (off : Bool) → MayTell plan b m (off_refusal off)
unfolding IsTold
off_tells plan b m true = tt
off_tells plan b m false = tt

-- what passing a signal is refused with tells what is there
pub pass_tells : (plan : PlanFields) (b n m : ℕ) (here : BoxState) (pair : PairState) (lever : ℕ) (signal : Signal)
    → CanTell plan b n m here pair → signal_of (box_plan_of plan b) lever ≡ Some signal
    → MayTell plan b m (pass_refusal here signal)
pass_tells plan b n m here pair lever signal is e =
    or_tells (IsTold plan b m) _ _ (danger_tells plan b m _) (way_tells plan b n m here pair lever signal is e)

-- what overrunning a signal is refused with tells what is there
pub overrun_tells : (plan : PlanFields) (b n m : ℕ) (here : BoxState) (pair : PairState) (lever : ℕ) (signal : Signal)
    → CanTell plan b n m here pair → signal_of (box_plan_of plan b) lever ≡ Some signal
    → MayTell plan b m (overrun_refusal here signal)
overrun_tells plan b n m here pair lever signal is e =
    or_tells (IsTold plan b m) _ _ (off_tells plan b m _) (way_tells plan b n m here pair lever signal is e)

-- ---- arrivals

portion_tells : (plan : PlanFields) (b m : ℕ) (o : Option ℕ) → IfSome o (IsOne plan)
    → MayTell plan b m (portion_refusal o)
unfolding IsTold
portion_tells plan b m None h = tt
portion_tells plan b m (Some train) h = h

occupied_tells : (plan : PlanFields) (b m : ℕ) (o : Option ℕ) → IfSome o (IsOne plan)
    → MayTell plan b m (berth_occupied o)
unfolding IsTold
occupied_tells plan b m None h = tt
occupied_tells plan b m (Some train) h = h

-- what coming into a berth is refused with tells what is there
pub berth_tells : (plan : PlanFields) (b n m : ℕ) (here : BoxState) (pair : PairState) (way : Way) (berth : Berth)
    → CanTell plan b n m here pair → berth_of (box_plan_of plan b) way ≡ Some berth
    → MayTell plan b m (berth_refusal here way berth)
berth_tells plan b n m here pair way berth is e =
    or_tells (IsTold plan b m) _ _ (portion_tells plan b m _ (is.tells way).portion)
    (occupied_tells plan b m _
    (stands_one plan b n m here pair berth.place is ((is_sound plan b n m here pair is).berth way berth e).place))

-- what clearing a portion away is refused with tells what is there
pub clear_portion_tells : (plan : PlanFields) (b m : ℕ) (o : Option ℕ) → MayTell plan b m (clear_portion_refusal o)
unfolding IsTold
clear_portion_tells plan b m None = tt
clear_portion_tells plan b m (Some train) = tt

-- ---- the release

winding_tells : (plan : PlanFields) (b m : ℕ) (o : Option ℕ) → MayTell plan b m (winding_refusal o)
unfolding IsTold
winding_tells plan b m None = tt
winding_tells plan b m (Some ready_at) = tt

normal_tells : (plan : PlanFields) (b m : ℕ) (position : Position) → MayTell plan b m (normal_refusal position)
unfolding IsTold
normal_tells plan b m shows.Normal = tt
normal_tells plan b m position = tt

-- what winding is refused with tells what is there
pub wind_tells : (plan : PlanFields) (b m : ℕ) (line : Incoming) → MayTell plan b m (wind_refusal line)
wind_tells plan b m line =
    or_tells (IsTold plan b m) _ _ (winding_tells plan b m line.ready_at) (normal_tells plan b m line.position)

soon_tells : (plan : PlanFields) (b m : ℕ) (t : Bool) (ready_at : ℕ) → IsReadyMoment plan ready_at
    → MayTell plan b m (soon_refusal t ready_at)
unfolding IsTold
soon_tells plan b m true ready_at h = h
soon_tells plan b m false ready_at h = tt

-- what a release is refused with tells what is there
pub release_tells : (plan : PlanFields) (b m moment : ℕ) (o : Option ℕ) → IfSome o (IsReadyMoment plan)
    → MayTell plan b m (release_refusal moment o)
unfolding IsTold
release_tells plan b m moment None h = tt
release_tells plan b m moment (Some ready_at) h = soon_tells plan b m (nat_lt moment ready_at) ready_at h
