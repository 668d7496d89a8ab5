-- The next entry of a journal whose calls may be made.
use Rattle.std.proofs.Common.{◌≡◌, ℕ, zero, suc, ◌+◌, ◌<◌, ◌≤◌, Bool, true, false, cond, inl, inr, List, [], ◌∷◌}
use Rattle.std.proofs.Common.{length, map, drop, get_or, slice_index_or, refl, sym, ap, subst, ◌∙◌, eqb}
use Rattle.std.specs.Prelude.{◌↔◌}
use Rattle.std.proofs.lemmas.Bool.Decides.{eqb_tells}
use Rattle.std.proofs.lemmas.List.{drop_more}
use Rattle.block_words.specs.declared.Way.TheVariants.{Up}
use Rattle.line_plan.specs.Frames.{BoxFields}
use Rattle.line_plan.specs.Plans.{IsPlan, PlanFields}
use Rattle.line_law.specs.declared.call.Act.TheVariants.{Ring}
use Rattle.line_law.specs.declared.call.Entry.{Entry}
use Rattle.line_law.specs.declared.call.Reply.TheVariants.{Rung}
use Rattle.line_law.specs.declared.state.BoxState.{BoxState}
use Rattle.line_law.specs.History.{after_entry, calls_of, part_of}
use Rattle.line_law.specs.Known.{KnowsCall}
use Rattle.line_law.specs.Law.{MayCall}
use Rattle.line_law.specs.Serial.{AreCalls}
use Rattle.line_law.specs.States.{IsStateOf, LineState, box_at, no_state, opening_box, opening_state}
use Rattle.line_law.proofs.Lines.{has_places}
use Rattle.line_law.proofs.Left.{moment_here, other_box}
use Rattle.train_laws.proofs.StarterFacts.{eqb_refl}
use Rattle.line_report.specs.Asked.{AreAsked}

-- ---- calls that may be made in turn

-- from a state on, the plan knows each call of each box, and moments don't fall within a box
abbrev pub AreAskedFrom : PlanFields → LineState → List Entry → Type 0
AreAskedFrom plan state es = (b : ℕ) → AreCalls plan b (box_at state b).moment (calls_of b es)

-- the calls of a box behind an entry, by whether that is the box's
calls_behind : (mine : Bool) (plan : PlanFields) (b moment : ℕ) (e : Entry) (es : List Entry)
    → AreCalls plan b moment (map (λ x. x.call) (cond mine (e ∷ part_of b es) (part_of b es)))
    → (mine ≡ true → KnowsCall plan b e.call × (moment ≤ e.call.moment) × AreCalls plan b e.call.moment (calls_of b es))
    × (mine ≡ false → AreCalls plan b moment (calls_of b es))
calls_behind true plan b moment e es h = (λ _. h, λ f. absurd cc)
calls_behind false plan b moment e es h = (λ f. absurd cc, λ _. h)

-- the first call may be made
pub asked_now : (plan : PlanFields) (state : LineState) (e : Entry) (es : List Entry) → AreAskedFrom plan state (e ∷ es)
    → MayCall plan state e.box_no e.call
asked_now plan state e es asked =
    let turn =
    (calls_behind (eqb e.box_no e.box_no) plan e.box_no (box_at state e.box_no).moment e es (asked e.box_no)).0
    (eqb_refl e.box_no) in
    record { known = turn.0; later = turn.1 }

-- and those behind it may be made after it
pub asked_then : (plan : PlanFields) (state : LineState) (e : Entry) (es : List Entry) → IsPlan plan
    → IsStateOf plan state → AreAskedFrom plan state (e ∷ es) → AreAskedFrom plan (after_entry plan state e) es
asked_then plan state e es is shape asked b =
    let behind = calls_behind (eqb e.box_no b) plan b (box_at state b).moment e es (asked b) in
    let known = (asked_now plan state e es asked).known in
    elim (eqb_tells e.box_no b) [
      | inl same ↦
          let within = (has_places plan state e.box_no e.call is shape known).box in
          let moment : (box_at (after_entry plan state e) b).moment ≡ e.call.moment =
          subst (λ (x : ℕ). (box_at (after_entry plan state e) x).moment ≡ e.call.moment) same.1
          (moment_here plan state e.box_no e.call within) in
          subst (λ (m : ℕ). AreCalls plan b m (calls_of b es)) (sym moment) (behind.0 same.0).2
      | inr differ ↦
          let there : box_at (after_entry plan state e) b ≡ box_at state b =
          other_box plan state e.box_no b e.call (λ f. differ.1 (sym f)) in
          subst (λ (x : BoxState). AreCalls plan b x.moment (calls_of b es)) (sym there) (behind.1 differ.0)
    ]

-- ---- one entry of a list

-- an entry off a list
abbrev pub no_entry : Entry
no_entry = record { box_no = 0; call = record { moment = 0; act = Ring Up 0 }; reply = Rung 0 }

-- ---- calls that may be made, one entry of a list

-- of entries that are asked in turn, the next may be called now
pub asked_at : (plan : PlanFields) (state : LineState) (es : List Entry) (i : ℕ) (d : Entry) → i < length es
    → AreAskedFrom plan state (drop i es) → MayCall plan state (get_or es i d).box_no (get_or es i d).call
asked_at plan state es i d lt asked =
    asked_now plan state (get_or es i d) (drop (i + 1) es)
    (subst (λ (rest : List Entry). AreAskedFrom plan state rest) (drop_more es i d lt) asked)

-- and behind it the rest are asked in turn
pub asked_behind : (plan : PlanFields) (state after : LineState) (es : List Entry) (i : ℕ) (d : Entry) → IsPlan plan
    → IsStateOf plan state → i < length es → after_entry plan state (get_or es i d) ≡ after
    → AreAskedFrom plan state (drop i es) → AreAskedFrom plan after (drop (i + 1) es)
asked_behind plan state after es i d is shape lt same asked =
    subst (λ (s : LineState). AreAskedFrom plan s (drop (i + 1) es)) same
    (asked_then plan state (get_or es i d) (drop (i + 1) es) is shape
    (subst (λ (rest : List Entry). AreAskedFrom plan state rest) (drop_more es i d lt) asked))

-- ---- from the opening on

opening_moment : (trains : ℕ) (boxes : List BoxFields) (b : ℕ)
    → (slice_index_or (map (λ box_plan. opening_box trains box_plan) boxes) b no_state).moment ≡ 0
opening_moment trains [] b = refl
opening_moment trains (box_plan ∷ boxes) zero = refl
opening_moment trains (box_plan ∷ boxes) (suc b) = opening_moment trains boxes b

-- a box opens at moment 0
pub starts_at : (plan : PlanFields) (b : ℕ) → (box_at (opening_state plan) b).moment ≡ 0
unfolding opening_state
starts_at plan b = opening_moment (length plan.trains) plan.boxes b

-- entries that are asked are asked in turn from the opening on
pub asked_first : (plan : PlanFields) (es : List Entry) → AreAsked plan es → AreAskedFrom plan (opening_state plan) es
asked_first plan es asked b = subst (λ (m : ℕ). AreCalls plan b m (calls_of b es)) (sym (starts_at plan b)) (asked b)

-- ---- whether calls may be made

-- calls that may be made after an entry's may be made from it on, where that may be made
asked_all : (plan : PlanFields) (state : LineState) (e : Entry) (es : List Entry) → IsPlan plan → IsStateOf plan state
    → MayCall plan state e.box_no e.call → AreAskedFrom plan (after_entry plan state e) es
    → AreAskedFrom plan state (e ∷ es)
asked_all plan state e es is shape may asked b = elim (eqb_tells e.box_no b) [
  | inl same ↦
      let within = (has_places plan state e.box_no e.call is shape may.known).box in
      let moment : (box_at (after_entry plan state e) b).moment ≡ e.call.moment =
      subst (λ (x : ℕ). (box_at (after_entry plan state e) x).moment ≡ e.call.moment) same.1
      (moment_here plan state e.box_no e.call within) in
      let known : KnowsCall plan b e.call = subst (λ (x : ℕ). KnowsCall plan x e.call) same.1 may.known in
      let later : (box_at state b).moment ≤ e.call.moment =
      subst (λ (x : ℕ). (box_at state x).moment ≤ e.call.moment) same.1 may.later in
      calls_with (eqb e.box_no b) plan b (box_at state b).moment e es
      (λ _. (known, later, subst (λ (m : ℕ). AreCalls plan b m (calls_of b es)) moment (asked b)))
      (λ f. absurd (let t = same.0 in cc))
  | inr differ ↦
      let there : box_at (after_entry plan state e) b ≡ box_at state b =
      other_box plan state e.box_no b e.call (λ f. differ.1 (sym f)) in
      calls_with (eqb e.box_no b) plan b (box_at state b).moment e es (λ f. absurd (let t = differ.0 in cc))
      (λ _. subst (λ (x : BoxState). AreCalls plan b x.moment (calls_of b es)) there (asked b))
] where
  calls_with : (mine : Bool) (plan : PlanFields) (b moment : ℕ) (e : Entry) (es : List Entry)
      → (mine ≡ true
      → KnowsCall plan b e.call × (moment ≤ e.call.moment) × AreCalls plan b e.call.moment (calls_of b es))
      → (mine ≡ false → AreCalls plan b moment (calls_of b es))
      → AreCalls plan b moment (map (λ x. x.call) (cond mine (e ∷ part_of b es) (part_of b es)))
  calls_with true plan b moment e es h k = h refl
  calls_with false plan b moment e es h k = k refl

-- and entries that are asked in turn from there on are asked
pub asked_begins : (plan : PlanFields) (state : LineState) (es : List Entry) → state ≡ opening_state plan
    → (AreAskedFrom plan state es ↔ AreAsked plan es)
asked_begins plan state es opens = (
  λ asked b. subst (λ (m : ℕ). AreCalls plan b m (calls_of b es))
      (ap (λ (s : LineState). (box_at s b).moment) opens ∙ starts_at plan b) (asked b),
  λ asked. subst (λ (s : LineState). AreAskedFrom plan s es) (sym opens) (asked_first plan es asked),
)

-- an entry that may be called leaves it to the rest whether all are asked
pub asked_more : (plan : PlanFields) (state after : LineState) (es : List Entry) (i : ℕ) (d : Entry) → IsPlan plan
    → IsStateOf plan state → i < length es → after_entry plan state (get_or es i d) ≡ after
    → MayCall plan state (get_or es i d).box_no (get_or es i d).call
    → (AreAskedFrom plan state (drop i es) ↔ AreAsked plan es)
    → (AreAskedFrom plan after (drop (i + 1) es) ↔ AreAsked plan es)
asked_more plan state after es i d is shape lt same may all =
    let e : Entry = get_or es i d in
    let rest : List Entry = drop (i + 1) es in (
      λ asked. all.0
          (subst (λ (xs : List Entry). AreAskedFrom plan state xs) (sym (drop_more es i d lt))
          (asked_all plan state e rest is shape may
          (subst (λ (s : LineState). AreAskedFrom plan s rest) (sym same) asked))),
      λ asked. asked_behind plan state after es i d is shape lt same (all.1 asked),
    )
