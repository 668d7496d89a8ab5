-- What the calls of a lever need of its box's plan.
use Rattle.std.specs.Prelude.{◌≡◌, ℕ, ◌-◌, List, [], Option, Some, None, Bool, true, false, is_some, length}
use Rattle.std.specs.Prelude.{slice_index_or}
use Rattle.locking_table.specs.Places.{IsLever}
use Rattle.line_plan.specs.Frames.{BoxFields, kind_of, signal_of, track_of}
use Rattle.line_plan.specs.declared.frame.Kind.{Kind}
use Rattle.line_plan.specs.declared.frame.Kind.TheVariants as kinds
use Rattle.lever_frame.specs.declared.lever_plan.LeverPlan.{LeverPlan}

-- a lever that is there and a spare one
abbrev pub is_spare : Option Kind → Bool
is_spare None = false
is_spare (Some kinds.Signal) = false
is_spare (Some kinds.Points) = false
is_spare (Some kinds.Lock) = false
is_spare (Some kinds.Distant) = false
is_spare (Some kinds.Spare) = true

-- of a lever of a box: whether it is spare, whether it works the arm of a signal or starter, and the places whose
-- occupation locks it
abbrev pub lever_plan_of : BoxFields → ℕ → LeverPlan
lever_plan_of box_plan lever =
    record {
      spare = is_spare (kind_of box_plan lever);
      arm = is_some (signal_of box_plan lever);
      places = track_of box_plan lever;
    }

-- a lever that works nothing and that nothing locks
abbrev pub no_lever_plan : LeverPlan
no_lever_plan = record { spare = false; arm = false; places = [] }

-- the plan of a lever, where the list has that of lever 1 first
abbrev pub plan_at : List LeverPlan → ℕ → LeverPlan
plan_at plans lever = slice_index_or plans (lever - 1) no_lever_plan

-- the plans of so many levers of a box, that of lever 1 first
pub record AreLeverPlans (box_plan : BoxFields) (levers : ℕ) (plans : List LeverPlan) : Type 0 where
  pub wide : length plans ≡ levers
  pub each : (lever : ℕ) → IsLever levers lever → plan_at plans lever ≡ lever_plan_of box_plan lever
