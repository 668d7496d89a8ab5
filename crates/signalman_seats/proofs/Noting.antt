-- What a signalman's notes tell of a call is what the plan knows of it.
use Rattle.std.proofs.Common.{◌≡◌, ℕ, ◌-◌, ◌<◌, Bool, true, false, ◌&&◌, List, length, map, refl, ap, ◌∙◌, arith}
use Rattle.std.specs.Prelude.{◌==◌, nat_lt, nat_le, is_some, slice_index_or}
use Rattle.std.proofs.lemmas.Bool.Decides.{nat_tests}
use Rattle.std.proofs.lemmas.List.{get_or-map, length-map}
use Rattle.line_plan.specs.Frames.{BoxFields, berth_of}
use Rattle.line_plan.specs.Plans.{PlanFields, no_train}
use Rattle.line_plan.specs.Ways.{comes_in, has_neighbour, leaves}
use Rattle.line_plan.specs.declared.plan.TrainPlan.{TrainPlan}
use Rattle.line_law.specs.declared.call.Act.{Act}
use Rattle.line_law.specs.declared.call.Act.TheVariants as acts
use Rattle.line_law.specs.declared.call.Call.{Call}
use Rattle.line_law.specs.Known.{knows_act, knows_call, knows_train}
use Rattle.line_law.specs.Law.{box_plan_of}
use Rattle.signalman_seats.specs.declared.notes.PlanNotes.{PlanNotes}
use Rattle.signalman_seats.specs.Notes.{AreNotesOf, notes_know, notes_know_act, notes_know_train}

-- past the last train nothing is read
read_within : (b : ℕ) (trains : List TrainPlan) (i : ℕ) (t : Bool) → nat_lt i (length trains) ≡ t
    → (t && slice_index_or (map (λ train. train.box_no == b) trains) i false) ≡
    (t && (slice_index_or trains i no_train).box_no == b)
read_within b trains i true e = let lt : i < length trains = grind (arith, nat_tests) in
    get_or-map (λ (train : TrainPlan). train.box_no == b) trains i no_train false lt
read_within b trains i false e = refl

and_both : (a t x y : Bool) → (t && x) ≡ (t && y) → ((a && t) && x) ≡ ((a && t) && y)
and_both true t x y h = h
and_both false t x y h = refl

train_by : (plan : PlanFields) (b : ℕ) (notes : PlanNotes) (train : ℕ) → AreNotesOf plan b notes
    → notes_know_train notes train ≡ knows_train plan b train
train_by plan b notes train is = (λ i. (nat_lt 0 train && nat_lt (train - 1) (length (is.trains i))) && slice_index_or
    (is.trains i) (train - 1) false)
    ∙ (ap (λ (n : ℕ). (nat_lt 0 train && nat_lt (train - 1) n) && slice_index_or
    (map (λ train. train.box_no == b) plan.trains) (train - 1) false)
    (length-map plan.trains (λ (t : TrainPlan). t.box_no == b))
    ∙ and_both (nat_lt 0 train) (nat_lt (train - 1) (length plan.trains)) _ _ (read_within b plan.trains (train - 1)
    (nat_lt (train - 1) (length plan.trains)) refl))

act_by : (plan : PlanFields) (b : ℕ) (notes : PlanNotes) (act : Act) → AreNotesOf plan b notes
    → notes_know_act notes (box_plan_of plan b) b act ≡ knows_act plan b act
act_by plan b notes (acts.Ring side code) is = λ i. has_neighbour (is.boxes i) b side &&
    (nat_le 1 code && nat_le code (is.codes i))
act_by plan b notes (acts.Hear side) is = λ i. has_neighbour (is.boxes i) b side
act_by plan b notes (acts.AwaitBell side code) is = λ i. has_neighbour (is.boxes i) b side &&
    (nat_le 1 code && nat_le code (is.codes i))
act_by plan b notes (acts.Turn way p) is = λ i. comes_in (is.boxes i) b way && is_some
    (berth_of (box_plan_of plan b) way)
act_by plan b notes (acts.AwaitBlock way p) is = λ i. leaves (is.boxes i) b way
act_by plan b notes (acts.Bring train) is = train_by plan b notes train is
act_by plan b notes (acts.AwaitTrain way) is = λ i. comes_in (is.boxes i) b way && is_some
    (berth_of (box_plan_of plan b) way)
act_by plan b notes (acts.Berth way) is = λ i. comes_in (is.boxes i) b way && is_some
    (berth_of (box_plan_of plan b) way)
act_by plan b notes (acts.BerthPart way) is = λ i. comes_in (is.boxes i) b way && is_some
    (berth_of (box_plan_of plan b) way)
act_by plan b notes (acts.ClearPortion way) is = λ i. comes_in (is.boxes i) b way && is_some
    (berth_of (box_plan_of plan b) way)
act_by plan b notes (acts.Wind way) is = λ i. comes_in (is.boxes i) b way && is_some (berth_of (box_plan_of plan b) way)
act_by plan b notes (acts.Release way) is = λ i. comes_in (is.boxes i) b way && is_some
    (berth_of (box_plan_of plan b) way)
act_by plan b notes act is = refl

-- the notes know a call exactly where the plan does
pub known_by_notes : (plan : PlanFields) (b : ℕ) (notes : PlanNotes) (box_plan : BoxFields) (call : Call)
    → AreNotesOf plan b notes → box_plan ≡ box_plan_of plan b
    → notes_know notes box_plan b call ≡ knows_call plan b call
unfolding knows_call
known_by_notes plan b notes box_plan call is same = ap (λ (bp : BoxFields). notes_know notes bp b call) same
    ∙ (λ i. (nat_lt b (is.boxes i) && nat_lt call.moment (is.moments i)) && act_by plan b notes call.act is i)
