-- Entries whose moments don't fall within a box.
use Rattle.std.proofs.Common.{◌≡◌, ◌≢◌, ℕ, ◌<◌, ◌≤◌, Bool, true, false, cond, eqb, List, [], ◌∷◌, length, get_or}
use Rattle.std.proofs.Common.{replicate, refl, sym, subst, ◌∙◌, arith, inl, inr}
use Rattle.std.specs.Prelude.{All, slice_set, filter, map}
use Rattle.std.proofs.lemmas.Bool.{eqb-true, eqb-false, cases_lt}
use Rattle.std.proofs.lemmas.List.{get_or-set_same, get_or-set_other, get_or-replicate, get_or_past, length-set}
use Rattle.std.proofs.lemmas.List.{length-replicate}
use Rattle.std.proofs.lemmas.List.Elements.{All-nil, All-cons, All-head, All-tail}
use Rattle.line_plan.specs.Plans.{PlanFields}
use Rattle.line_law.specs.declared.call.Entry.{Entry}
use Rattle.line_law.specs.History.{calls_of}
use Rattle.line_law.specs.Known.{KnowsCall}
use Rattle.line_law.specs.Serial.{AreCalls}
use Rattle.script_text.specs.Entries.{IsSpelled}
use Rattle.line_report.specs.Asked.{AreAsked}
use Rattle.line_report.specs.Spelled.{IsAnswered, IsBehind}

-- the last moments of the boxes after an entry
abbrev pub after : List ℕ → Entry → List ℕ
after moments e = slice_set moments e.box_no e.call.moment

-- entries one behind another
abbrev pub AreBehind : PlanFields → List ℕ → List Entry → Type 0
AreBehind plan moments [] = Unit {0}
AreBehind plan moments (e ∷ es) = IsBehind plan moments e × AreBehind plan (after moments e) es

-- ---- they are asked

-- entries that follow one another in their moments can be spelled
pub behind_spelled : (plan : PlanFields) (moments : List ℕ) (es : List Entry) → AreBehind plan moments es
    → All (IsSpelled plan) es
behind_spelled plan moments [] h = All-nil (IsSpelled plan)
behind_spelled plan moments (e ∷ es) h =
    All-cons (IsSpelled plan) e es h.0.spelled (behind_spelled plan (after moments e) es h.1)

-- and each has a reply that its call may have
pub behind_answered : (plan : PlanFields) (moments : List ℕ) (es : List Entry) → AreBehind plan moments es
    → All IsAnswered es
behind_answered plan moments [] h = All-nil IsAnswered
behind_answered plan moments (e ∷ es) h =
    All-cons IsAnswered e es h.0.answered (behind_answered plan (after moments e) es h.1)

-- the call of an entry in front of the calls of box b, where it is of box b
calls_step : (plan : PlanFields) (b : ℕ) (moments : List ℕ) (e : Entry) (rest : List Entry) (t : Bool)
    → eqb e.box_no b ≡ t → e.box_no < length moments → IsBehind plan moments e
    → AreCalls plan b (get_or (after moments e) b 0) (map (λ e. e.call) rest)
    → AreCalls plan b (get_or moments b 0) (map (λ e. e.call) (cond t (e ∷ rest) rest))
calls_step plan b moments e rest true is at h later =
    let same : e.box_no ≡ b = eqb-true e.box_no b is in
    let last : get_or (after moments e) b 0 ≡ e.call.moment =
    rw (← same) (get_or-set_same moments e.box_no e.call.moment 0 at) in (
      subst (λ (n : ℕ). KnowsCall plan n e.call) same h.spelled.call,
      rw (← same) h.later,
      subst (λ (m : ℕ). AreCalls plan b m (map (λ e. e.call) rest)) last later,
    )
calls_step plan b moments e rest false is at h later =
    let other : b ≢ e.box_no = λ (same : b ≡ e.box_no). eqb-false e.box_no b is (sym same) in
    subst (λ (m : ℕ). AreCalls plan b m (map (λ e. e.call) rest))
    (get_or-set_other moments e.box_no b e.call.moment 0 other) later

pub behind_calls : (plan : PlanFields) (b : ℕ) (moments : List ℕ) (es : List Entry) → length moments ≡ length plan.boxes
    → AreBehind plan moments es → AreCalls plan b (get_or moments b 0) (calls_of b es)
behind_calls plan b moments [] each h = tt
behind_calls plan b moments (e ∷ es) each h =
    let at : e.box_no < length moments = omega (arith, each, h.0.spelled.box) in
    calls_step plan b moments e (filter (λ x. eqb x.box_no b) es) (eqb e.box_no b) refl at h.0
    (behind_calls plan b (after moments e) es (length-set moments e.box_no e.call.moment ∙ each) h.1)

-- no moment of a box is below the start of the day
pub no_moment : (n b : ℕ) → ◌≡◌ {A = ℕ} (get_or (replicate n 0) b 0) 0
no_moment n b = elim (cases_lt b n) [
  | inl lt ↦ get_or-replicate n b 0 0 lt
  | inr le ↦ get_or_past (replicate n 0) b 0 (omega (arith, le, length-replicate {A = ℕ} n 0))
]

-- and from the opening moments on they are asked
pub behind_asked : (plan : PlanFields) (es : List Entry) → AreBehind plan (replicate (length plan.boxes) 0) es
    → AreAsked plan es
behind_asked plan es h b =
    subst (λ (m : ℕ). AreCalls plan b m (calls_of b es)) (no_moment (length plan.boxes) b)
    (behind_calls plan b (replicate (length plan.boxes) 0) es (length-replicate {A = ℕ} (length plan.boxes) 0) h)

-- ---- what is asked stands one behind another

-- the calls of each box from its last moment on
abbrev AreCalled : PlanFields → List ℕ → List Entry → Type 0
AreCalled plan moments es = (b : ℕ) → AreCalls plan b (get_or moments b 0) (calls_of b es)

-- the calls of box b behind an entry
calls_behind : (plan : PlanFields) (b : ℕ) (moments : List ℕ) (e : Entry) (rest : List Entry) (t : Bool)
    → eqb e.box_no b ≡ t → e.box_no < length moments
    → AreCalls plan b (get_or moments b 0) (map (λ e. e.call) (cond t (e ∷ rest) rest))
    → AreCalls plan b (get_or (after moments e) b 0) (map (λ e. e.call) rest)
calls_behind plan b moments e rest true is at h =
    let same : e.box_no ≡ b = eqb-true e.box_no b is in
    let last : get_or (after moments e) b 0 ≡ e.call.moment =
    rw (← same) (get_or-set_same moments e.box_no e.call.moment 0 at) in
    subst (λ (m : ℕ). AreCalls plan b m (map (λ e. e.call) rest)) (sym last) h.2
calls_behind plan b moments e rest false is at h =
    let other : b ≢ e.box_no = λ (same : b ≡ e.box_no). eqb-false e.box_no b is (sym same) in
    subst (λ (m : ℕ). AreCalls plan b m (map (λ e. e.call) rest))
    (sym (get_or-set_other moments e.box_no b e.call.moment 0 other)) h

own_calls : (plan : PlanFields) (moments : List ℕ) (e : Entry) (es : List Entry) (t : Bool) → eqb e.box_no e.box_no ≡ t
    → AreCalls plan e.box_no (get_or moments e.box_no 0)
    (map (λ e. e.call) (cond t (e ∷ filter (λ x. eqb x.box_no e.box_no) es) (filter (λ x. eqb x.box_no e.box_no) es)))
    → get_or moments e.box_no 0 ≤ e.call.moment
own_calls plan moments e es true is h = h.1
own_calls plan moments e es false is h = absurd (eqb-false e.box_no e.box_no is refl)

called_behind : (plan : PlanFields) (moments : List ℕ) (es : List Entry) → length moments ≡ length plan.boxes
    → All (IsSpelled plan) es → All IsAnswered es → AreCalled plan moments es → AreBehind plan moments es
called_behind plan moments [] each spelled answered called = tt
called_behind plan moments (e ∷ es) each spelled answered called =
    let own = All-head (IsSpelled plan) e es spelled in
    let at : e.box_no < length moments = omega (arith, each, own.box) in (
      record {
        spelled = own;
        answered = All-head IsAnswered e es answered;
        later =
            own_calls plan moments e es (eqb e.box_no e.box_no) refl (called e.box_no);
      },
      called_behind plan (after moments e) es (length-set moments e.box_no e.call.moment ∙ each)
          (All-tail (IsSpelled plan) e es spelled) (All-tail IsAnswered e es answered)
          (λ b. calls_behind plan b moments e (filter (λ x. eqb x.box_no b) es) (eqb e.box_no b) refl at (called b)),
    )

-- asked entries that can be spelled and are answered follow one another from the opening moments on
pub asked_behind : (plan : PlanFields) (es : List Entry) → All (IsSpelled plan) es → All IsAnswered es
    → AreAsked plan es → AreBehind plan (replicate (length plan.boxes) 0) es
asked_behind plan es spelled answered asked =
    called_behind plan (replicate (length plan.boxes) 0) es (length-replicate {A = ℕ} (length plan.boxes) 0) spelled
    answered
    (λ b. subst (λ (m : ℕ). AreCalls plan b m (calls_of b es)) (sym (no_moment (length plan.boxes) b)) (asked b))
