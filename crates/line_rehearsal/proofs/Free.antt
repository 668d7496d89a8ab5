-- The search for the lowest box that may go on, and where it may begin.
use Rattle.std.proofs.Common.{◌≡◌, ◌≢◌, ℕ, zero, suc, ◌+◌, ◌-◌, ◌<◌, ◌≤◌, Bool, true, false, cond, IsTrue, List, []}
use Rattle.std.proofs.Common.{◌∷◌, length, drop, set, Option, Some, None, refl, ap, subst, ◌∙◌, arith, drop-cons}
use Rattle.std.proofs.Common.{add-one}
use Rattle.std.proofs.lemmas.List.{get_or-set_other, length-set}
use Rattle.std.proofs.Math.ListN.{drop_of_length-le}
use Rattle.block_words.specs.declared.Way.TheVariants.{Up, Down}
use Rattle.line_plan.specs.Plans.{PlanFields}
use Rattle.line_law.specs.declared.call.Call.{Call}
use Rattle.line_law.specs.declared.call.Reply.{Reply}
use Rattle.line_law.specs.declared.link.Link.{Link}
use Rattle.line_law.specs.declared.link.Link.TheVariants.{Out, In}
use Rattle.line_law.specs.declared.state.BoxState.{BoxState}
use Rattle.line_law.specs.declared.state.PairState.{PairState}
use Rattle.line_law.specs.Law.{box_plan_of, pair_of, link_of, step, step_at}
use Rattle.line_law.specs.Links.{pair_no}
use Rattle.line_law.specs.Serial.{calls_left, first_free, first_waiting, is_not_yet, may_go, next_box, or_else}
use Rattle.line_law.specs.States.{LineState, box_at, pair_at}
use Rattle.line_law.proofs.Left.{other_box}
use Rattle.line_rehearsal.specs.Stops.{AreStopped, IsStopped}

-- ---- from one box on

-- the lowest box, of those from box i on, that may go on
abbrev pub free_from : PlanFields → LineState → List (List Call) → ℕ → Option ℕ
free_from plan state left i = first_free plan state i (drop i left)

here : (left : List (List Call)) (i : ℕ) → i < length left → drop i left ≡ calls_left left i ∷ drop (i + 1) left
here left i lt = rw add-one (drop-cons left i [] lt)

-- a box that may not go on is passed over
pub passed_over : (plan : PlanFields) (state : LineState) (left : List (List Call)) (i : ℕ) → i < length left
    → may_go plan state i (calls_left left i) ≡ false → free_from plan state left i ≡ free_from plan state left (i + 1)
passed_over plan state left i lt e = rw (here left i lt) (go (may_go plan state i (calls_left left i)) e) where
  go : (t : Bool) → t ≡ false
      → cond t (Some i) (first_free plan state (i + 1) (drop (i + 1) left)) ≡ free_from plan state left (i + 1)
  go true f = absurd cc
  go false f = refl

-- one that may is found
pub found_free : (plan : PlanFields) (state : LineState) (left : List (List Call)) (i : ℕ) → i < length left
    → may_go plan state i (calls_left left i) ≡ true → free_from plan state left i ≡ Some i
found_free plan state left i lt e = rw (here left i lt) (go (may_go plan state i (calls_left left i)) e) where
  go : (t : Bool) → t ≡ true → cond t (Some i) (first_free plan state (i + 1) (drop (i + 1) left)) ≡ Some i
  go true f = refl
  go false f = absurd cc

-- behind the last box there is none
pub none_free : (plan : PlanFields) (state : LineState) (left : List (List Call)) (i : ℕ) → length left ≤ i
    → free_from plan state left i ≡ None
none_free plan state left i le = rw (drop_of_length-le left le) refl

-- ---- what the search has found

-- a box that may not go on is passed over, and the search goes on
not_here : (t : Bool) (k : ℕ) (rest : Option ℕ) → cond t (Some k) rest ≡ None → (t ≡ false) × (rest ≡ None)
not_here true k rest e = absurd cc
not_here false k rest e = (refl, e)

stopped_here : (plan : PlanFields) (state : LineState) (b : ℕ) (calls : List Call)
    → may_go plan state b calls ≡ false → IsStopped plan state b calls
stopped_here plan state b [] e = tt
stopped_here plan state b (call ∷ calls) e = go (is_not_yet (step plan state b call).reply) e where
  go : (t : Bool) → cond t false true ≡ false → IsTrue t
  go true f = refl
  go false f = absurd cc

-- where no box may go on, each is stopped
pub all_stopped : (plan : PlanFields) (state : LineState) (left : List (List Call))
    → first_free plan state 0 left ≡ None → AreStopped plan state left
all_stopped plan state left e = λ b. go 0 left b b (omega arith) e where
  go : (k : ℕ) (left : List (List Call)) (b n : ℕ) → n ≡ k + b → first_free plan state k left ≡ None
      → IsStopped plan state n (calls_left left b)
  go k [] b n is e = tt
  go k (calls ∷ left) zero n is e =
      let same : k ≡ n = omega arith in
      subst (λ (m : ℕ). IsStopped plan state m calls) same
      (stopped_here plan state k calls (not_here (may_go plan state k calls) k _ e).0)
  go k (calls ∷ left) (suc b) n is e =
      go (k + 1) left b n (omega arith) (not_here (may_go plan state k calls) k _ e).1

-- the lowest box that may go on calls next
pub is_next : (plan : PlanFields) (state : LineState) (left : List (List Call)) (b : ℕ)
    → first_free plan state 0 left ≡ Some b → next_box plan state left ≡ Some b
is_next plan state left b e = ap (λ (o : Option ℕ). or_else o (first_waiting 0 left)) e

-- below the lowest box that may go on none may
not_below : (t : Bool) (k b : ℕ) (rest : Option ℕ) → k < b → cond t (Some k) rest ≡ Some b
    → (t ≡ false) × (rest ≡ Some b)
not_below true k b rest lt e = let same : k ≡ b = cc in absurd (omega arith)
not_below false k b rest lt e = (refl, e)

none_below : (plan : PlanFields) (state : LineState) (left : List (List Call)) (b c : ℕ)
    → first_free plan state 0 left ≡ Some b → c < b → may_go plan state c (calls_left left c) ≡ false
none_below plan state left b c e lt = go 0 left c c (omega arith) lt e where
  go : (k : ℕ) (left : List (List Call)) (c n : ℕ) → n ≡ k + c → n < b → first_free plan state k left ≡ Some b
      → may_go plan state n (calls_left left c) ≡ false
  go k [] c n is lt e = absurd cc
  go k (calls ∷ left) zero n is lt e =
      let same : k ≡ n = omega arith in
      subst (λ (m : ℕ). may_go plan state m calls ≡ false) same
      (not_below (may_go plan state k calls) k b _ (omega arith) e).0
  go k (calls ∷ left) (suc c) n is lt e =
      go (k + 1) left c n (omega arith) lt (not_below (may_go plan state k calls) k b _ (omega arith) e).1

-- ---- where it may begin

-- where no box below n may go on, the search may begin at n
begins_at : (plan : PlanFields) (state : LineState) (left : List (List Call)) (n : ℕ) → n ≤ length left
    → ((c : ℕ) → c < n → may_go plan state c (calls_left left c) ≡ false)
    → first_free plan state 0 left ≡ free_from plan state left n
begins_at plan state left zero le none = refl
begins_at plan state left (suc n) le none =
    let same : n + 1 ≡ suc n = omega arith in
    begins_at plan state left n (omega arith) (λ c lt. none c (omega arith))
    ∙ passed_over plan state left n (omega arith) (none n (omega arith))
    ∙ ap (λ (m : ℕ). free_from plan state left m) same

pair_low : (c : ℕ) (link : Link) → pair_no c link ≤ c
pair_low c (Out Up) = omega arith
pair_low c (Out Down) = omega arith
pair_low c (In Up) = omega arith
pair_low c (In Down) = omega arith

pair_high : (b : ℕ) (link : Link) → b ≤ pair_no b link + 1
pair_high b (Out Up) = omega arith
pair_high b (Out Down) = omega arith
pair_high b (In Up) = omega arith
pair_high b (In Down) = omega arith

same_reply : (plan : PlanFields) (old new : LineState) (c : ℕ) (call : Call) → box_at new c ≡ box_at old c
    → pair_at new (pair_of plan c call) ≡ pair_at old (pair_of plan c call)
    → (step plan new c call).reply ≡ (step plan old c call).reply
unfolding step
same_reply plan old new c call e f =
    ap (λ (x : BoxState). (step_at plan (box_plan_of plan c) call x (pair_at new (pair_of plan c call))).reply) e
    ∙ ap (λ (x : PairState). (step_at plan (box_plan_of plan c) call (box_at old c) x).reply) f

other_pair : (plan : PlanFields) (state : LineState) (b p : ℕ) (call : Call) → p ≢ pair_of plan b call
    → pair_at (step plan state b call).after p ≡ pair_at state p
unfolding step
other_pair plan state b p call differ = get_or-set_other state.pairs (pair_of plan b call) p _ _ differ

-- a call of box b leaves each box below its neighbour as it may go on or not
far_below : (plan : PlanFields) (state : LineState) (b c : ℕ) (call : Call) (calls : List Call) → c + 1 < b
    → may_go plan (step plan state b call).after c calls ≡ may_go plan state c calls
far_below plan state b c call [] lt = refl
far_below plan state b c call (next ∷ calls) lt =
    let low = pair_low c (link_of (box_plan_of plan c) next.act) in
    let high = pair_high b (link_of (box_plan_of plan b) call.act) in
    let box_differs : c ≢ b = λ e. absurd (omega arith) in
    let pair_differs : pair_of plan c next ≢ pair_of plan b call = λ e. absurd (omega (arith, low, high)) in
    ap (λ (reply : Reply). cond (is_not_yet reply) false true)
    (same_reply plan state (step plan state b call).after c next (other_box plan state b c call box_differs)
    (other_pair plan state b (pair_of plan c next) call pair_differs))

-- so behind a call of the lowest box that may go on the search may begin at the neighbour below
pub begins_below : (plan : PlanFields) (state : LineState) (left : List (List Call)) (b : ℕ) (call : Call)
    (after : List Call) → first_free plan state 0 left ≡ Some b → b < length left
    → first_free plan (step plan state b call).after 0 (set left b after)
    ≡ free_from plan (step plan state b call).after (set left b after) (b - 1)
begins_below plan state left b call after e lt =
    begins_at plan (step plan state b call).after (set left b after) (b - 1) (omega (arith, length-set left b after))
    (λ c low.
    let differ : c ≢ b = λ same. absurd (omega arith) in
    rw (get_or-set_other left b c after [] differ)
    (far_below plan state b c call (calls_left left c) (omega arith)
    ∙ none_below plan state left b c e (omega arith)))
