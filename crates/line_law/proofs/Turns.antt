-- A box's calls in a legal history may be made in turn.
use Rattle.std.proofs.Common.{◌≡◌, ℕ, zero, suc, ◌≤◌, Bool, true, false, cond, List, [], ◌∷◌, map, slice_index_or, refl}
use Rattle.std.proofs.Common.{sym, subst, inl, inr, eqb}
use Rattle.std.proofs.lemmas.Bool.Decides.{eqb_tells}
use Rattle.line_plan.specs.Frames.{BoxFields}
use Rattle.line_plan.specs.Plans.{IsPlan, PlanFields}
use Rattle.line_law.specs.declared.call.Entry.{Entry}
use Rattle.line_law.specs.declared.state.BoxState.{BoxState}
use Rattle.line_law.specs.History.{IsLegal, IsLegalFrom, after_entry, calls_of, part_of}
use Rattle.line_law.specs.Known.{KnowsCall}
use Rattle.line_law.specs.Serial.{AreCalls}
use Rattle.line_law.specs.States.{IsStateOf, LineState, box_at, no_state, opening_box, opening_state}
use Rattle.line_law.proofs.Lines.{has_places}
use Rattle.line_law.proofs.Keeping.{shape_stays}
use Rattle.line_law.proofs.Left.{moment_here, other_box}
use Rattle.line_law.proofs.Opens.{opening_shape}

one_turn : (mine : Bool) (plan : PlanFields) (b : ℕ) (moment : ℕ) (e : Entry) (es : List Entry)
    → (mine ≡ true → KnowsCall plan b e.call × (moment ≤ e.call.moment) × AreCalls plan b e.call.moment (calls_of b es))
    → (mine ≡ false → AreCalls plan b moment (calls_of b es))
    → AreCalls plan b moment (map (λ x. x.call) (cond mine (e ∷ part_of b es) (part_of b es)))
one_turn true plan b moment e es h k = h refl
one_turn false plan b moment e es h k = k refl

turns_from : (plan : PlanFields) (state : LineState) (b : ℕ) (es : List Entry) → IsPlan plan → IsStateOf plan state
    → IsLegalFrom plan state es → AreCalls plan b (box_at state b).moment (calls_of b es)
turns_from plan state b [] is shape legal = tt
turns_from plan state b (e ∷ es) is shape legal =
    let rest =
    turns_from plan (after_entry plan state e) b es is (shape_stays plan state e.box_no e.call shape) legal.2 in
    elim (eqb_tells e.box_no b) [
      | inl same ↦
          let within = (has_places plan state e.box_no e.call is shape legal.0.known).box in
          let moment : (box_at (after_entry plan state e) b).moment ≡ e.call.moment =
          subst (λ (x : ℕ). (box_at (after_entry plan state e) x).moment ≡ e.call.moment) same.1
          (moment_here plan state e.box_no e.call within) in
          let known : KnowsCall plan b e.call = subst (λ (x : ℕ). KnowsCall plan x e.call) same.1 legal.0.known in
          let later : (box_at state b).moment ≤ e.call.moment =
          subst (λ (x : ℕ). (box_at state x).moment ≤ e.call.moment) same.1 legal.0.later in
          one_turn (eqb e.box_no b) plan b (box_at state b).moment e es
          (λ _. (known, later, subst (λ (m : ℕ). AreCalls plan b m (calls_of b es)) moment rest))
          (λ f. absurd (let t = same.0 in cc))
      | inr differ ↦
          let there : box_at (after_entry plan state e) b ≡ box_at state b =
          other_box plan state e.box_no b e.call (λ f. differ.1 (sym f)) in
          one_turn (eqb e.box_no b) plan b (box_at state b).moment e es (λ f. absurd (let t = differ.0 in cc))
          (λ _. subst (λ (x : BoxState). AreCalls plan b x.moment (calls_of b es)) there rest)
    ]

opening_moment : (n : ℕ) (boxes : List BoxFields) (b : ℕ)
    → (slice_index_or (map (λ box_plan. opening_box n box_plan) boxes) b no_state).moment ≡ 0
opening_moment n [] b = refl
opening_moment n (box_plan ∷ boxes) zero = refl
opening_moment n (box_plan ∷ boxes) (suc b) = opening_moment n boxes b

-- every box of a line that opens has its last moment at 0
pub starts_at : (plan : PlanFields) (b : ℕ) → (box_at (opening_state plan) b).moment ≡ 0
unfolding opening_state
starts_at plan b = opening_moment _ plan.boxes b

-- the calls of a box in a legal history may be made in turn
pub calls_in_turn : (plan : PlanFields) (es : List Entry) (b : ℕ) → IsPlan plan → IsLegal plan es
    → AreCalls plan b 0 (calls_of b es)
calls_in_turn plan es b is h =
    subst (λ (m : ℕ). AreCalls plan b m (calls_of b es)) (starts_at plan b)
    (turns_from plan (opening_state plan) b es is (opening_shape plan) h)
