-- A call that the plan knows fits the desk of its box.
use Rattle.std.proofs.Common.{◌≡◌, ℕ, ◌+◌, ◌-◌, ◌<◌, ◌≤◌, ◌^◌, ◌==◌, ◌&&◌, Bool, true, false, cond, List, length, map}
use Rattle.std.proofs.Common.{IsTrue, nat_le, nat_lt, sym, ap, subst, ◌∙◌, arith}
use Rattle.std.specs.Prelude.{slice_index_or}
use Rattle.std.proofs.lemmas.Bool.{ltb-true}
use Rattle.std.proofs.lemmas.Bool.Decides.{nat_tests}
use Rattle.block_words.specs.declared.Way.{Way}
use Rattle.std.proofs.lemmas.List.{get_or-map, length-map}
use Rattle.line_plan.specs.declared.plan.TrainPlan.{TrainPlan}
use Rattle.line_plan.specs.Frames.{BoxFields}
use Rattle.line_plan.specs.Limits.{most_delay}
use Rattle.line_plan.specs.Plans.{PlanFields, no_train, train_at}
use Rattle.line_law.specs.declared.call.Act.{Act}
use Rattle.line_law.specs.declared.call.Act.TheVariants as acts
use Rattle.line_law.specs.declared.call.Call.{Call}
use Rattle.line_law.specs.Known.{KnowsCall, is_code_no, knows_act, knows_side, moments_of}
use Rattle.line_law.specs.Law.{box_plan_of}
use Rattle.line_law.specs.Ready.{FitsHere}
use Rattle.line_law.proofs.Found.{both}
use Rattle.line_law.proofs.Keeping.{known_fits}
use Rattle.line_law.proofs.Sides.{known_parts}
use Rattle.box_desk.specs.Desks.{DeskFields, FitsLever, FitsTrain, IsDeskOf, IsKeptOf}
use Rattle.box_desk.proofs.Counting.{BringsNo}
use Rattle.box_desk.proofs.Looking.{AwaitsCode}

lever_at : (plan : PlanFields) (box_plan : BoxFields) (act : Act) → FitsHere plan box_plan act → FitsLever box_plan act
lever_at plan box_plan (acts.Pull lever) fits = fits
lever_at plan box_plan (acts.Put lever) fits = fits
lever_at plan box_plan act fits = tt

place_kept : (trains : List TrainPlan) (t : ℕ) → t - 1 < length trains
    → slice_index_or (map (λ train. train.place) trains) (t - 1) 0 ≡ (train_at trains t).place
place_kept trains t within = get_or-map (λ (train : TrainPlan). train.place) trains (t - 1) no_train 0 within

train_here : (plan : PlanFields) (box_plan : BoxFields) (places : List ℕ) (delay train : ℕ)
    → IsKeptOf plan places delay → FitsHere plan box_plan (acts.Bring train)
    → FitsTrain box_plan places (acts.Bring train)
train_here plan box_plan places delay train kept fits =
    let parts = both (nat_lt 0 train) (nat_lt (train - 1) (length plan.trains)) fits.0 in
    let within = ltb-true (train - 1) (length plan.trains) parts.1 in
    let same : length places ≡ length plan.trains =
    ap length kept.places_are ∙ length-map plan.trains (λ (t : TrainPlan). t.place) in (
      ltb-true 0 train parts.0,
      subst (λ (n : ℕ). train - 1 < n) (sym same) within,
      subst (λ (n : ℕ). n < length box_plan.places)
          (sym (ap (λ (ps : List ℕ). slice_index_or ps (train - 1) 0) kept.places_are
          ∙ place_kept plan.trains train within)) fits.1,
    )

train_fits : (plan : PlanFields) (box_plan : BoxFields) (places : List ℕ) (delay : ℕ) (act : Act)
    → IsKeptOf plan places delay → FitsHere plan box_plan act → FitsTrain box_plan places act
train_fits plan box_plan places delay (acts.Bring train) kept fits =
    train_here plan box_plan places delay train kept fits
train_fits plan box_plan places delay act kept fits = tt

-- the train that a call brings fits a lane
pub brings_no : (box_plan : BoxFields) (places : List ℕ) (act : Act) → length places < 65536
    → FitsTrain box_plan places act → BringsNo act
brings_no box_plan places (acts.Bring train) few fits = (fits.0, omega (arith, few, fits.0, fits.1))
brings_no box_plan places act few fits = tt

code_there : (plan : PlanFields) (b : ℕ) (side : Way) (code : ℕ)
    → IsTrue (knows_side plan b side && is_code_no plan code) → 0 < code
code_there plan b side code known =
    let there = both (knows_side plan b side) (is_code_no plan code) known in
    let least = both (nat_le 1 code) (nat_le code (length plan.codes)) there.1 in
    let one = least.0 in grind (arith, nat_tests)

code_awaited : (plan : PlanFields) (b : ℕ) (act : Act) → IsTrue (knows_act plan b act) → AwaitsCode act
code_awaited plan b (acts.AwaitBell side code) known = code_there plan b side code known
code_awaited plan b act known = tt

-- a code that is awaited is one of the plan's
pub awaits_code : (plan : PlanFields) (b : ℕ) (call : Call) → KnowsCall plan b call → AwaitsCode call.act
awaits_code plan b call known = code_awaited plan b call.act (known_parts plan b call known).act

-- either of two limits is within a third
pub one_limit : (t : Bool) (m n k : ℕ) → m ≤ k → n ≤ k → cond t m n ≤ k
one_limit true m n k h g = h
one_limit false m n k h g = g

-- ---- by the desk

-- the lever of a known call is one of the frame
pub knows_lever_of : (plan : PlanFields) (b : ℕ) (desk : DeskFields) (call : Call) → IsDeskOf plan b desk
    → KnowsCall plan b call → FitsLever desk.box_plan call.act
knows_lever_of plan b desk call is known =
    subst (λ (box_plan : BoxFields). FitsLever box_plan call.act) (sym is.box_plan)
    (lever_at plan (box_plan_of plan b) call.act (known_fits plan b call is.is_plan known))

-- the train of a known call is one of the line, with its place in the box
pub knows_train_of : (plan : PlanFields) (b : ℕ) (desk : DeskFields) (call : Call) → IsDeskOf plan b desk
    → KnowsCall plan b call → FitsTrain desk.box_plan desk.train_places call.act
knows_train_of plan b desk call is known =
    subst (λ (box_plan : BoxFields). FitsTrain box_plan desk.train_places call.act) (sym is.box_plan)
    (train_fits plan (box_plan_of plan b) desk.train_places desk.delay call.act is.kept
    (known_fits plan b call is.is_plan known))

-- the moment of a known call, with a delay, is a number of the machine
pub few_moments_of : (plan : PlanFields) (b : ℕ) (desk : DeskFields) (call : Call) → IsDeskOf plan b desk
    → KnowsCall plan b call → call.moment + desk.delay < 2 ^ 32
few_moments_of plan b desk call is known =
    let parts = known_parts plan b call known in
    let moments : moments_of plan.version ≤ 86400 =
    one_limit (plan.version == 1) 1440 86400 86400 (omega arith) (omega arith) in
    let delays : most_delay plan.version ≤ 3600 =
    one_limit (plan.version == 1) 60 3600 3600 (omega arith) (omega arith) in
    omega (arith, parts.moment, is.kept.delay_is, is.is_plan.delay, moments, delays)
