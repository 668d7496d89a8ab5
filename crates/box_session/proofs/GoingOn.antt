-- What the boxes do that go on by their scripts, one entry after another.
use Rattle.std.proofs.Common.{◌≡◌, ℕ, zero, suc, List, [], ◌∷◌, Some, None, drop, slice_set, refl, sym, ap, ◌∙◌, arith}
use Rattle.line_plan.specs.Plans.{PlanFields}
use Rattle.line_law.specs.declared.call.Call.{Call}
use Rattle.line_law.specs.History.{entry_of}
use Rattle.line_law.specs.Law.{step}
use Rattle.line_law.specs.Serial.{calls_left, count_left, first_free}
use Rattle.line_law.specs.States.{LineState}
use Rattle.line_law.proofs.Left.{count_next, next_has}
use Rattle.line_rehearsal.specs.Rehearsals.{left_then}
use Rattle.line_rehearsal.proofs.Free.{is_next}
use Rattle.box_session.specs.Others.{going_on, others_from}

-- a call is left, and others behind it
pub record HasNext (calls : List Call) : Type 0 where
  pub call : Call
  pub is : calls ≡ call ∷ drop 1 calls

-- the box that may go on has a call left
pub free_next : (plan : PlanFields) (state : LineState) (left : List (List Call)) (b : ℕ)
    → first_free plan state 0 left ≡ Some b → HasNext (calls_left left b)
free_next plan state left b free =
    let has = next_has plan state left b (is_next plan state left b free) in
    let rest : drop 1 (calls_left left b) ≡ has.rest = ap (drop 1) has.is in
    record { call = has.call; is = has.is ∙ ap (λ (calls : List Call). has.call ∷ calls) (sym rest) }

next_entry : (plan : PlanFields) (state : LineState) (left : List (List Call)) (n b : ℕ) (call : Call)
    (calls : List Call) → first_free plan state 0 left ≡ Some b → calls_left left b ≡ call ∷ calls
    → going_on plan (suc n) state left
    ≡ record { box_no = b; call = call; reply = (step plan state b call).reply }
    ∷ going_on plan n (step plan state b call).after (slice_set left b calls)
unfolding going_on
next_entry plan state left n b call calls free is = rw (free, is) refl

-- it makes that call, and then all go on from there
pub others_next : (plan : PlanFields) (state : LineState) (left : List (List Call)) (b : ℕ) (call : Call)
    → first_free plan state 0 left ≡ Some b → calls_left left b ≡ call ∷ drop 1 (calls_left left b)
    → others_from plan state left
    ≡ entry_of plan state b call ∷ others_from plan (step plan state b call).after (left_then left b)
unfolding others_from
others_next plan state left b call free is =
    let fewer = count_next left b call (drop 1 (calls_left left b)) is in
    let counted : count_left left ≡ suc (count_left (left_then left b)) = omega (arith, fewer) in
    ap (λ (n : ℕ). going_on plan n state left) counted
    ∙ next_entry plan state left (count_left (left_then left b)) b call (drop 1 (calls_left left b)) free is

nothing_more : (plan : PlanFields) (state : LineState) (left : List (List Call)) (n : ℕ)
    → first_free plan state 0 left ≡ None → going_on plan n state left ≡ []
unfolding going_on
nothing_more plan state left zero none = refl
nothing_more plan state left (suc n) none = rw none refl

-- where no box may go on, no more is done
pub others_none : (plan : PlanFields) (state : LineState) (left : List (List Call))
    → first_free plan state 0 left ≡ None → others_from plan state left ≡ []
unfolding others_from
others_none plan state left none = nothing_more plan state left (count_left left) none
