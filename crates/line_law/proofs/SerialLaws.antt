-- The journal of the order on one thread is legal, and has each box's calls in their order.
use Rattle.std.proofs.Common.{◌≡◌, ◌≢◌, ℕ, zero, suc, ◌+◌, ◌<◌, ◌≤◌, Bool, true, false, cond, List, [], ◌∷◌, Option}
use Rattle.std.proofs.Common.{Some, None, length, map, slice_set, slice_index_or, refl, sym, ap, subst, ◌∙◌, arith, inl}
use Rattle.std.proofs.Common.{inr, eqb}
use Rattle.std.proofs.lemmas.Bool.Decides.{eqb_tells}
use Rattle.std.proofs.lemmas.List.{get_or-set_same, get_or-set_other}
use Rattle.std.proofs.lemmas.List.Sums.{sum_by-cons}
use Rattle.line_plan.specs.Plans.{IsPlan, PlanFields}
use Rattle.line_plan.specs.Frames.{BoxFields}
use Rattle.line_law.proofs.Opens.{opening_shape}
use Rattle.line_law.specs.declared.call.Call.{Call}
use Rattle.line_law.specs.declared.call.Entry.{Entry}
use Rattle.line_law.specs.States.{LineState, opening_state, opening_box, no_state}
use Rattle.line_law.specs.Law.{step}
use Rattle.line_law.specs.History.{IsLegalFrom, IsLegal, part_of, calls_of}
use Rattle.line_law.specs.Serial.{AreLeft, AreScripts, calls_left, call_next, go_on, serial_from, serial_journal}
use Rattle.line_law.specs.Serial.{next_box, count_left}
use Rattle.line_law.proofs.Left.{HasCall, may_call, has_box, left_next, count_next, next_has, none_next, same_boxes}

-- ---- legal

-- what the rest gives from each state on is legal
RestIsLegal : PlanFields → (LineState → List (List Call) → List Entry) → Type 0
RestIsLegal plan rest =
    (state : LineState) (left : List (List Call)) → length state.boxes ≡ length plan.boxes → AreLeft plan state left
    → IsLegalFrom plan state (rest state left)

next_legal : (plan : PlanFields) (rest : LineState → List (List Call) → List Entry) (state : LineState)
    (left : List (List Call)) (b : ℕ) → RestIsLegal plan rest
    → length state.boxes ≡ length plan.boxes → AreLeft plan state left → HasCall (calls_left left b)
    → IsLegalFrom plan state (call_next plan rest state left b (calls_left left b))
unfolding RestIsLegal
next_legal plan rest state left b later boxes h has =
    let call = has.call in
    let calls = has.rest in
    let legal : IsLegalFrom plan state (call_next plan rest state left b (call ∷ calls)) = (
      may_call plan state left b call calls h has.is,
      refl,
      later (step plan state b call).after (slice_set left b calls) (same_boxes plan state b call ∙ boxes)
          (left_next plan state left b call calls boxes h has.is),
    ) in
    subst (λ (cs : List Call). IsLegalFrom plan state (call_next plan rest state left b cs)) (sym has.is) legal

go_legal : (plan : PlanFields) (rest : LineState → List (List Call) → List Entry) (state : LineState)
    (left : List (List Call)) (o : Option ℕ) → next_box plan state left ≡ o → RestIsLegal plan rest
    → length state.boxes ≡ length plan.boxes → AreLeft plan state left
    → IsLegalFrom plan state (go_on plan rest state left o)
go_legal plan rest state left None e later boxes h = tt
go_legal plan rest state left (Some b) e later boxes h =
    next_legal plan rest state left b later boxes h (next_has plan state left b e)

serial_legal : (plan : PlanFields) (n : ℕ) → RestIsLegal plan (serial_from plan n)
unfolding serial_from RestIsLegal
serial_legal plan zero state left boxes h = tt
serial_legal plan (suc n) state left boxes h =
    go_legal plan (λ after rest. serial_from plan n after rest) state left (next_box plan state left) refl
    (serial_legal plan n) boxes h

-- ---- the parts

none_left : (left : List (List Call)) (c : ℕ) → count_left left ≡ 0 → calls_left left c ≡ []
none_left [] c h = refl
none_left ([] ∷ left) zero h = refl
none_left ([] ∷ left) (suc c) h = none_left left c (omega arith)
none_left ((call ∷ calls) ∷ left) c h =
    let some : count_left ((call ∷ calls) ∷ left) ≡ length (call ∷ calls) + count_left left =
    sum_by-cons (λ (cs : List Call). length cs) (call ∷ calls) left in absurd (omega arith)

one_part : (mine : Bool) (c : ℕ) (e : Entry) (es : List Entry) (calls : List Call) → calls_of c es ≡ calls
    → map (λ x. x.call) (cond mine (e ∷ part_of c es) (part_of c es)) ≡ cond mine (e.call ∷ calls) calls
one_part true c e es calls h = ap (λ (cs : List Call). e.call ∷ cs) h
one_part false c e es calls h = h

RestHasParts : ℕ → (LineState → List (List Call) → List Entry) → Type 0
RestHasParts n rest =
    (state : LineState) (left : List (List Call)) → count_left left ≤ n → (c : ℕ)
    → calls_of c (rest state left) ≡ calls_left left c

next_parts : (plan : PlanFields) (n : ℕ) (rest : LineState → List (List Call) → List Entry) (state : LineState)
    (left : List (List Call)) (b c : ℕ) → RestHasParts n rest → count_left left ≤ n + 1 → HasCall (calls_left left b)
    → calls_of c (call_next plan rest state left b (calls_left left b)) ≡ calls_left left c
unfolding RestHasParts
next_parts plan n rest state left b c later few has =
    let call = has.call in
    let calls = has.rest in
    let after = (step plan state b call).after in
    let fewer = count_next left b call calls has.is in
    let within : b < length left = has_box left b call calls has.is in
    let more = later after (slice_set left b calls) (omega arith) c in
    let part : calls_of c (call_next plan rest state left b (call ∷ calls)) ≡ calls_left left c = elim (eqb_tells b c) [
      | inl same ↦
          one_part (eqb b c) c _ (rest after (slice_set left b calls)) _ more
          ∙ rw (same.0, ← same.1, get_or-set_same left b calls [] within) (sym has.is)
      | inr differ ↦
          let other : c ≢ b = λ e. differ.1 (sym e) in
          one_part (eqb b c) c _ (rest after (slice_set left b calls)) _ more
          ∙ rw (differ.0, get_or-set_other left b c calls [] other) refl
    ] in
    subst (λ (cs : List Call). calls_of c (call_next plan rest state left b cs) ≡ calls_left left c) (sym has.is) part

go_parts : (plan : PlanFields) (n : ℕ) (rest : LineState → List (List Call) → List Entry) (state : LineState)
    (left : List (List Call)) (o : Option ℕ) (c : ℕ) → next_box plan state left ≡ o → RestHasParts n rest
    → count_left left ≤ n + 1
    → calls_of c (go_on plan rest state left o) ≡ calls_left left c
go_parts plan n rest state left None c e later few = sym (none_left left c (none_next plan state left e))
go_parts plan n rest state left (Some b) c e later few =
    next_parts plan n rest state left b c later few (next_has plan state left b e)

serial_parts : (plan : PlanFields) (n : ℕ) → RestHasParts n (serial_from plan n)
unfolding serial_from RestHasParts
serial_parts plan zero state left few c = sym (none_left left c (omega arith))
serial_parts plan (suc n) state left few c =
    go_parts plan n (λ after rest. serial_from plan n after rest) state left (next_box plan state left) c refl
    (serial_parts plan n) (omega arith)

-- ---- from the opening on

opening_moment : (n : ℕ) (boxes : List BoxFields) (b : ℕ)
    → (slice_index_or (map (λ box_plan. opening_box n box_plan) boxes) b no_state).moment ≡ 0
opening_moment n [] b = refl
opening_moment n (box_plan ∷ boxes) zero = refl
opening_moment n (box_plan ∷ boxes) (suc b) = opening_moment n boxes b

-- the scripts of a line can be called in turn as it opens
pub left_opens : (plan : PlanFields) (scripts : List (List Call)) → AreScripts plan scripts
    → AreLeft plan (opening_state plan) scripts
unfolding opening_state
left_opens plan scripts h =
    record { each = h.each; calls = λ b. rw (opening_moment (length plan.trains) plan.boxes b) (h.calls b) }

opening_boxes : (plan : PlanFields) → length (opening_state plan).boxes ≡ length plan.boxes
opening_boxes plan = (opening_shape plan).boxes

-- the journal on one thread is legal
pub journal_legal : (plan : PlanFields) (scripts : List (List Call)) → IsPlan plan → AreScripts plan scripts
    → IsLegal plan (serial_journal plan scripts)
unfolding serial_journal RestIsLegal
journal_legal plan scripts is h =
    serial_legal plan (count_left scripts) (opening_state plan) scripts (opening_boxes plan) (left_opens plan scripts h)

-- each box's part of the journal on one thread is its script
pub journal_parts : (plan : PlanFields) (scripts : List (List Call)) (b : ℕ)
    → calls_of b (serial_journal plan scripts) ≡ calls_left scripts b
unfolding serial_journal RestHasParts
journal_parts plan scripts b = serial_parts plan (count_left scripts) (opening_state plan) scripts (omega arith) b
