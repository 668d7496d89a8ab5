-- What stands at a number of a list, or behind its end.
use Rattle.std.proofs.Common.{◌≡◌, ℕ, ◌-◌, List, [], None, ap, get_or, slice_get}
use Rattle.std.proofs.lemmas.Option.{get_or_from_slice_get}
use Rattle.line_plan.specs.Frames.{BoxFields}
use Rattle.line_plan.specs.Plans.{box_at, no_box, no_train, train_at}
use Rattle.line_plan.specs.declared.plan.TrainPlan.{TrainPlan}
use Rattle.line_plan.proofs.Named.{none_here}

pub ruleset name_rules = (get_or_from_slice_get, none_here)

-- no box has no places
pub no_place : (boxes : List BoxFields) (b place : ℕ) → slice_get boxes b ≡ None
    → get_or (box_at boxes b).places place [] ≡ []
no_place boxes b place none =
    let no : box_at boxes b ≡ no_box = none_here boxes b no_box none in
    ap (λ (box_plan : BoxFields). get_or box_plan.places place []) no

-- no train has no name
pub no_name : (trains : List TrainPlan) (t : ℕ) → slice_get trains (t - 1) ≡ None → (train_at trains t).name ≡ []
no_name trains t none = ap (λ (train : TrainPlan). train.name) (none_here trains (t - 1) no_train none)

pub ruleset train_rules = (get_or_from_slice_get, no_name)
