-- A desk as the line opens.
use Rattle.std.proofs.Common.{◌≡◌, ℕ, ◌<◌, ◌≤◌, ◌==◌, List, false, ◌⊎◌, inl, inr, length, map, replicate, sym, ap}
use Rattle.std.proofs.Common.{subst, ◌∙◌, arith}
use Rattle.std.specs.Prelude.{Option, None, IfSome, slice_index_or}
use Rattle.std.proofs.lemmas.Bool.{cases_lt}
use Rattle.std.proofs.lemmas.List.{get_or_default, get_or_past, get_or-replicate, length-map, length-replicate}
use Rattle.block_words.specs.declared.Way.{Way}
use Rattle.block_words.specs.declared.Way.TheVariants.{Up, Down}
use Rattle.line_plan.specs.declared.plan.TrainPlan.{TrainPlan}
use Rattle.line_plan.specs.Frames.{BoxFields}
use Rattle.line_plan.specs.Limits.{most_delay}
use Rattle.line_plan.specs.Plans.{IsPlan, PlanFields, no_box}
use Rattle.line_law.specs.declared.state.BoxState.{BoxState}
use Rattle.line_law.specs.Law.{box_plan_of}
use Rattle.line_law.specs.Sound.{IsSound}
use Rattle.line_law.specs.States.{opening_box}
use Rattle.line_law.specs.Tracks.{train_on}
use Rattle.line_law.specs.Ways.{of_way}
use Rattle.word_laws.specs.WordNumbers.{IsTrainNo}
use Rattle.box_desk.specs.declared.equipment.Equipment.{Equipment}
use Rattle.box_desk.specs.Boxes.{IsCounted, IsFitted, here_of}
use Rattle.box_desk.specs.Desks.{IsDesk}
use Rattle.line_law.proofs.PlanFacts.{plan_sound}
use Rattle.box_desk.proofs.Known.{one_limit}

-- the box's plan as it is read
pub box_there : (plan : PlanFields) (b : ℕ) (lent : List BoxFields) (box_plan : BoxFields) (boxes : List BoxFields)
    → box_plan ≡ slice_index_or lent b box_plan → lent ≡ boxes → boxes ≡ plan.boxes → b < length plan.boxes
    → box_plan ≡ box_plan_of plan b
box_there plan b lent box_plan boxes read is same within =
    read ∙ ap (λ (bs : List BoxFields). slice_index_or bs b box_plan) (is ∙ same)
    ∙ get_or_default plan.boxes b box_plan no_box within

none_stands : (n place : ℕ) → IfSome (train_on (replicate n None) place) IsTrainNo
none_stands n place = by (cases_lt place n) where
  by : (place < n) ⊎ (n ≤ place) → IfSome (train_on (replicate n None) place) IsTrainNo
  by (inl inside) =
      subst (λ (o : Option ℕ). IfSome o IsTrainNo) (sym (get_or-replicate n place None None inside)) tt
  by (inr outside) =
      subst (λ (o : Option ℕ). IfSome o IsTrainNo)
      (sym (get_or_past (replicate n None) place None
      (subst (λ (k : ℕ). k ≤ place) (sym (length-replicate n None)) outside))) tt

opening_counted : (trains : ℕ) (box_plan : BoxFields) → IsCounted 0 trains (opening_box trains box_plan)
opening_counted trains box_plan =
    record {
      rung = none;
      sent = none;
      turns = turns;
      taken = taken;
      brought = length-replicate trains false;
      stands = λ place. none_stands (length box_plan.places) place;
    }
  where
    none : (way : Way) → of_way (opening_box trains box_plan).rung way ≤ 0
    none Up = omega arith
    none Down = omega arith

    turns : (way : Way) → (of_way (opening_box trains box_plan).incoming way).turns ≤ 0
    turns Up = omega arith
    turns Down = omega arith

    taken : (way : Way) → (of_way (opening_box trains box_plan).incoming way).taken ≤ 0
    taken Up = omega arith
    taken Down = omega arith

-- a desk that opens keeps what its type says
pub opens : (plan : PlanFields) (b : ℕ) (box_plan : BoxFields) (places : List ℕ) (delay : ℕ) (box : Equipment)
    → IsPlan plan → b < length plan.boxes → box_plan ≡ box_plan_of plan b
    → places ≡ map (λ train. train.place) plan.trains → delay ≡ plan.delay
    → here_of box ≡ opening_box (length plan.trains) box_plan → IsFitted box_plan box
    → IsDesk box_plan places delay box 0
opens plan b box_plan places delay box is within there kept short here fitted =
    let same : length places ≡ length plan.trains =
    ap length kept ∙ length-map plan.trains (λ (t : TrainPlan). t.place) in
    let delays : most_delay plan.version ≤ 3600 =
    one_limit (plan.version == 1) 60 3600 3600 (omega arith) (omega arith) in
    record {
      sound = subst (λ (bp : BoxFields). IsSound bp) (sym there) (plan_sound plan b is within);
      fitted = fitted;
      counted = subst (λ (n : ℕ). IsCounted 0 n (here_of box)) (sym same)
          (subst (λ (h : BoxState). IsCounted 0 (length plan.trains) h) (sym here)
          (opening_counted (length plan.trains) box_plan));
      few_trains = omega (arith, same, is.few_trains);
      short = omega (arith, short, is.delay, delays);
    }
