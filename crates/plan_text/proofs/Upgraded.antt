-- An upgraded plan is a plan.
use Rattle.std.proofs.Common.{◌≡◌, ℕ, Bool, true, false, cond, eqb, List, refl, ap, arith, subst}
use Rattle.std.proofs.lemmas.Bool.{eqb-true}
use Rattle.std.proofs.lemmas.Bool.Decides.{nat_tests}
use Rattle.line_plan.specs.Frames.{BoxFields}
use Rattle.line_plan.specs.Plans.{PlanFields, IsPlan}
use Rattle.line_plan.specs.declared.plan.Class.{Class}
use Rattle.line_plan.specs.declared.plan.TrainPlan.{TrainPlan}
use Rattle.line_plan.specs.Upgrades.{plan_in_seconds, upgraded}

in_seconds : (plan : PlanFields) → plan.version ≡ 1 → IsPlan plan → IsPlan (plan_in_seconds plan)
in_seconds plan one is = record {
  version_low = omega arith;
  version_high = omega arith;
  delay = grind (arith, nat_tests, is.delay);
  looks_low = is.looks_low;
  looks_high = is.looks_high;
  classes = is.classes;
  fewest = is.fewest;
  most = grind (arith, nat_tests, is.most);
  named = is.named;
  distinct = is.distinct;
  each = is.each;
  trains = is.trains;
  few_trains = is.few_trains;
  trains_named = is.trains_named;
  trains_distinct = is.trains_distinct;
}

-- the upgrade of a plan is a plan
pub upgraded_is : (plan : PlanFields) → IsPlan plan → IsPlan (upgraded plan)
upgraded_is plan is = go (eqb plan.version 1) refl where
  go : (b : Bool) → eqb plan.version 1 ≡ b → IsPlan (cond b (plan_in_seconds plan) plan)
  go true e = in_seconds plan (eqb-true plan.version 1 e) is
  go false e = is

shape : (plan : PlanFields) → IsPlan plan → upgraded plan ≡ record plan { version = 2; delay = (upgraded plan).delay }
shape plan is = go (eqb plan.version 1) refl where
  go : (b : Bool) → eqb plan.version 1 ≡ b
      → cond b (plan_in_seconds plan) plan
      ≡ record plan { version = 2; delay = (cond b (plan_in_seconds plan) plan).delay }
  go true e = refl
  go false e =
      let two : plan.version ≡ 2 = grind (arith, nat_tests, is.version_low, is.version_high) in
      ap (λ (version : ℕ). record plan { version = version }) two

-- a plan with the fields of the upgraded one
pub newer_is : (plan : PlanFields) (delay looks : ℕ) (codes : List (List ℕ)) (classes : List Class)
    (boxes : List BoxFields) (trains : List TrainPlan) → IsPlan plan → delay ≡ (upgraded plan).delay
    → looks ≡ plan.looks → codes ≡ plan.codes → classes ≡ plan.classes → boxes ≡ plan.boxes → trains ≡ plan.trains
    → IsPlan (record {
      version = 2;
      delay = delay;
      looks = looks;
      codes = codes;
      classes = classes;
      boxes =
          boxes;
      trains = trains;
    })
newer_is plan delay looks codes classes boxes trains is d l c k b t =
    rw (d, l, c, k, b, t) (subst IsPlan (shape plan is) (upgraded_is plan is))
