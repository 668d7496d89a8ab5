-- The search for the box that calls next, from the lowest on.
use Rattle.std.proofs.Common.{◌≡◌, ℕ, ◌+◌, ◌<◌, ◌≤◌, Bool, true, false, cond, List, [], ◌∷◌, length, drop, Option, Some}
use Rattle.std.proofs.Common.{None, refl, ap, drop-cons, add-one}
use Rattle.std.proofs.Math.ListN.{drop_of_length-le}
use Rattle.line_law.specs.declared.call.Call.{Call}
use Rattle.line_plan.specs.Plans.{PlanFields}
use Rattle.line_law.specs.States.{LineState}
use Rattle.line_law.specs.Law.{step}
use Rattle.line_law.specs.Serial.{calls_left, first_free, first_waiting, is_not_yet, or_else}
use Rattle.serial_working.specs.Looks.{look_of}
use Rattle.serial_working.specs.declared.look.Look.TheVariants.{Idle, Stopped, Free}

-- what the search still gives, from box i on, where the lowest that waits so far is this one
abbrev pub found_from : PlanFields → LineState → List (List Call) → ℕ → Option ℕ → Option ℕ
found_from plan state left i waiting =
    or_else (first_free plan state i (drop i left)) (or_else waiting (first_waiting i (drop i left)))

abbrev on_here : PlanFields → LineState → ℕ → List Call → List (List Call) → Option ℕ → Option ℕ
on_here plan state i calls rest waiting =
    or_else (first_free plan state i (calls ∷ rest)) (or_else waiting (first_waiting i (calls ∷ rest)))

here : (left : List (List Call)) (i : ℕ) → i < length left → drop i left ≡ calls_left left i ∷ drop (i + 1) left
here left i lt = rw add-one (drop-cons left i [] lt)

-- a box that has no call left
pub idle_box : (plan : PlanFields) (state : LineState) (left : List (List Call)) (i : ℕ) (waiting : Option ℕ)
    → i < length left → look_of plan state i (calls_left left i) ≡ Idle
    → found_from plan state left i waiting ≡ found_from plan state left (i + 1) waiting
idle_box plan state left i waiting lt look = rw (here left i lt) (go (calls_left left i) look) where
  go : (calls : List Call) → look_of plan state i calls ≡ Idle
      → on_here plan state i calls (drop (i + 1) left) waiting ≡ found_from plan state left (i + 1) waiting
  go [] e = refl
  go (call ∷ calls) e = absurd (stands (is_not_yet (step plan state i call).reply) e) where
    stands : (b : Bool) → cond b Stopped Free ≡ Idle → ⊥
    stands true f = cc
    stands false f = cc

-- a box that may go on
pub free_box : (plan : PlanFields) (state : LineState) (left : List (List Call)) (i : ℕ) (waiting : Option ℕ)
    → i < length left → look_of plan state i (calls_left left i) ≡ Free → found_from plan state left i waiting ≡ Some i
free_box plan state left i waiting lt look = rw (here left i lt) (go (calls_left left i) look) where
  go : (calls : List Call) → look_of plan state i calls ≡ Free
      → on_here plan state i calls (drop (i + 1) left) waiting ≡ Some i
  go [] e = absurd cc
  go (call ∷ calls) e = goes (is_not_yet (step plan state i call).reply) e where
    goes : (b : Bool) → cond b Stopped Free ≡ Free
        → or_else (cond (cond b false true) (Some i) (first_free plan state (i + 1) (drop (i + 1) left)))
        (or_else waiting (Some i)) ≡ Some i
    goes true f = absurd cc
    goes false f = refl

-- a box that is stopped
pub stopped_box : (plan : PlanFields) (state : LineState) (left : List (List Call)) (i : ℕ) (waiting : Option ℕ)
    → i < length left → look_of plan state i (calls_left left i) ≡ Stopped
    → found_from plan state left i waiting ≡ found_from plan state left (i + 1) (or_else waiting (Some i))
stopped_box plan state left i waiting lt look = rw (here left i lt) (go (calls_left left i) look) where
  first_waits : (w : Option ℕ)
      → or_else w (Some i) ≡ or_else (or_else w (Some i)) (first_waiting (i + 1) (drop (i + 1) left))
  first_waits (Some x) = refl
  first_waits None = refl

  go : (calls : List Call) → look_of plan state i calls ≡ Stopped
      → on_here plan state i calls (drop (i + 1) left) waiting
      ≡ found_from plan state left (i + 1) (or_else waiting (Some i))
  go [] e = absurd cc
  go (call ∷ calls) e = goes (is_not_yet (step plan state i call).reply) e where
    goes : (b : Bool) → cond b Stopped Free ≡ Stopped
        → or_else (cond (cond b false true) (Some i) (first_free plan state (i + 1) (drop (i + 1) left)))
        (or_else waiting (Some i)) ≡ found_from plan state left (i + 1) (or_else waiting (Some i))
    goes true f = ap (or_else (first_free plan state (i + 1) (drop (i + 1) left))) (first_waits waiting)
    goes false f = absurd cc

-- behind the last box
pub no_box_more : (plan : PlanFields) (state : LineState) (left : List (List Call)) (i : ℕ) (waiting : Option ℕ)
    → length left ≤ i → found_from plan state left i waiting ≡ waiting
no_box_more plan state left i waiting le = rw (drop_of_length-le left le) (go waiting) where
  go : (w : Option ℕ) → or_else w None ≡ w
  go (Some x) = refl
  go None = refl
