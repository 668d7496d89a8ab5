-- Calls of two boxes that are decided on different words change places.
use Rattle.std.proofs.Common.{◌≡◌, ◌≢◌, ℕ, ◌<◌, List, length, slice_set, refl, sym, ap, subst, ◌∙◌, inl, inr}
use Rattle.std.proofs.lemmas.List.{get_or-set_same, get_or-set_other, set-set, set_comm}
use Rattle.block_words.specs.declared.Way.{Way}
use Rattle.block_words.specs.declared.Way.TheVariants.{Up, Down}
use Rattle.line_plan.specs.Plans.{IsPlan, PlanFields}
use Rattle.line_law.specs.declared.call.Call.{Call}
use Rattle.line_law.specs.declared.state.BoxState.{BoxState}
use Rattle.line_law.specs.declared.state.PairState.{PairState}
use Rattle.line_law.specs.Decisions.{Decision, Here, OnBell, OnBlock, OnPlainLine, Told, on_pair}
use Rattle.line_law.specs.States.{LineState, IsStateOf, box_at, no_state, opening_pair, pair_at}
use Rattle.line_law.specs.Law.{Done, done_at, step, step_at, pair_of, box_plan_of}
use Rattle.line_law.specs.Known.{KnowsCall}
use Rattle.word_laws.specs.Footprint.{Kind, Tally, BellWord, BlockWord, PlainLineWord, kind_of, kind_at, way_at, Apart}
use Rattle.word_laws.specs.Footprint.{Differ, Commute, OnOtherWords, decision_at}
use Rattle.line_law.proofs.Lines.{has_places}

-- ---- in one pair

-- the second of two outcomes in a pair is as it would be alone, and the word is the same in either order
record InOrder (d e : Decision) (v w : Way) (p : PairState) : Type 0 where
  reply : (on_pair w e (on_pair v d p).word).reply ≡ (on_pair w e p).reply
  here : (on_pair w e (on_pair v d p).word).here ≡ (on_pair w e p).here
  word : (on_pair w e (on_pair v d p).word).word ≡ (on_pair v d (on_pair w e p).word).word

in_order : (d e : Decision) (v w : Way) (p : PairState) → Apart (kind_of d) v (kind_of e) w → InOrder d e v w p
in_order (Here reply here) e v w p apart = record { reply = refl; here = refl; word = refl }
in_order (OnBell f) (Here reply here) v w p apart = record { reply = refl; here = refl; word = refl }
in_order (OnBell f) (OnBell g) Up Up p apart = absurd apart
in_order (OnBell f) (OnBell g) Up Down p apart = record { reply = refl; here = refl; word = refl }
in_order (OnBell f) (OnBell g) Down Up p apart = record { reply = refl; here = refl; word = refl }
in_order (OnBell f) (OnBell g) Down Down p apart = absurd apart
in_order (OnBell f) (OnBlock g) v w p apart = record { reply = refl; here = refl; word = refl }
in_order (OnBell f) (OnPlainLine g) v w p apart = record { reply = refl; here = refl; word = refl }
in_order (OnBlock f) (Here reply here) v w p apart = record { reply = refl; here = refl; word = refl }
in_order (OnBlock f) (OnBell g) v w p apart = record { reply = refl; here = refl; word = refl }
in_order (OnBlock f) (OnBlock g) Up Up p apart = absurd apart
in_order (OnBlock f) (OnBlock g) Up Down p apart = record { reply = refl; here = refl; word = refl }
in_order (OnBlock f) (OnBlock g) Down Up p apart = record { reply = refl; here = refl; word = refl }
in_order (OnBlock f) (OnBlock g) Down Down p apart = absurd apart
in_order (OnBlock f) (OnPlainLine g) v w p apart = record { reply = refl; here = refl; word = refl }
in_order (OnPlainLine f) (Here reply here) v w p apart = record { reply = refl; here = refl; word = refl }
in_order (OnPlainLine f) (OnBell g) v w p apart = record { reply = refl; here = refl; word = refl }
in_order (OnPlainLine f) (OnBlock g) v w p apart = record { reply = refl; here = refl; word = refl }
in_order (OnPlainLine f) (OnPlainLine g) Up Up p apart = absurd apart
in_order (OnPlainLine f) (OnPlainLine g) Up Down p apart = record { reply = refl; here = refl; word = refl }
in_order (OnPlainLine f) (OnPlainLine g) Down Up p apart = record { reply = refl; here = refl; word = refl }
in_order (OnPlainLine f) (OnPlainLine g) Down Down p apart = absurd apart

differ_sym : (v w : Way) → Differ v w → Differ w v
differ_sym Up Up h = h
differ_sym Up Down h = h
differ_sym Down Up h = h
differ_sym Down Down h = h

apart_sym : (k : Kind) (v : Way) (l : Kind) (w : Way) → Apart k v l w → Apart l w k v
apart_sym Tally v Tally w h = tt
apart_sym Tally v BellWord w h = tt
apart_sym Tally v BlockWord w h = tt
apart_sym Tally v PlainLineWord w h = tt
apart_sym BellWord v Tally w h = tt
apart_sym BellWord v BellWord w h = differ_sym v w h
apart_sym BellWord v BlockWord w h = tt
apart_sym BellWord v PlainLineWord w h = tt
apart_sym BlockWord v Tally w h = tt
apart_sym BlockWord v BellWord w h = tt
apart_sym BlockWord v BlockWord w h = differ_sym v w h
apart_sym BlockWord v PlainLineWord w h = tt
apart_sym PlainLineWord v Tally w h = tt
apart_sym PlainLineWord v BellWord w h = tt
apart_sym PlainLineWord v BlockWord w h = tt
apart_sym PlainLineWord v PlainLineWord w h = differ_sym v w h

-- ---- an outcome in the line

abbrev Outcome : Type 0
Outcome = BoxState → PairState → Told PairState

abbrev lift : Outcome → LineState → ℕ → ℕ → Done
lift f state b p = done_at state b p (f (box_at state b) (pair_at state p))

abbrev plain_line_of : List BoxState → List PairState → LineState
plain_line_of boxes pairs = record { boxes = boxes; pairs = pairs }

same_line : (xs ys : List BoxState) (ps qs : List PairState) → xs ≡ ys → ps ≡ qs
    → plain_line_of xs ps ≡ plain_line_of ys qs
same_line xs ys ps qs e f =
    ap (λ (zs : List BoxState). plain_line_of zs ps) e ∙ ap (λ (rs : List PairState). plain_line_of ys rs) f

finds : (g : Outcome) (x y : BoxState) (p q : PairState) → x ≡ y → p ≡ q → g x p ≡ g y q
finds g x y p q e f = ap (λ (z : BoxState). g z p) e ∙ ap (λ (r : PairState). g y r) f

record LiftsCommute (f g : Outcome) (state : LineState) (b c p q : ℕ) : Type 0 where
  first : (lift f (lift g state c q).after b p).reply ≡ (lift f state b p).reply
  second : (lift g (lift f state b p).after c q).reply ≡ (lift g state c q).reply
  after : (lift g (lift f state b p).after c q).after ≡ (lift f (lift g state c q).after b p).after

-- ---- in two pairs

finds_apart : (f g : Outcome) (state : LineState) (b c p q : ℕ) → c ≢ b → q ≢ p
    → g (box_at (lift f state b p).after c) (pair_at (lift f state b p).after q) ≡ g (box_at state c) (pair_at state q)
finds_apart f g state b c p q nb np =
    finds g _ _ _ _ (get_or-set_other state.boxes b c _ no_state nb)
    (get_or-set_other state.pairs p q _ opening_pair np)

after_apart : (f g : Outcome) (state : LineState) (b c p q : ℕ) → b ≢ c → p ≢ q
    → (lift g (lift f state b p).after c q).after ≡ (lift f (lift g state c q).after b p).after
after_apart f g state b c p q nb np =
    let there : Told PairState = f (box_at state b) (pair_at state p) in
    let other : Told PairState = g (box_at state c) (pair_at state q) in
    ap (λ (t : Told PairState). (done_at (lift f state b p).after c q t).after)
    (finds_apart f g state b c p q (λ e. nb (sym e)) (λ e. np (sym e)))
    ∙ same_line _ _ _ _ (set_comm state.boxes b c there.here other.here nb)
    (set_comm state.pairs p q there.word other.word np)
    ∙ sym (ap (λ (t : Told PairState). (done_at (lift g state c q).after b p t).after)
    (finds_apart g f state c b q p nb np))

lifts_apart : (f g : Outcome) (state : LineState) (b c p q : ℕ) → b ≢ c → p ≢ q → LiftsCommute f g state b c p q
lifts_apart f g state b c p q nb np =
    record {
      first = ap (λ (t : Told PairState). t.reply) (finds_apart g f state c b q p nb np);
      second = ap (λ (t : Told PairState). t.reply) (finds_apart f g state b c p q (λ e. nb (sym e)) (λ e. np (sym e)));
      after = after_apart f g state b c p q nb np;
    }

-- ---- in one pair of the line

record AreInOrder (f g : Outcome) (x y : BoxState) (p : PairState) : Type 0 where
  reply : (g y (f x p).word).reply ≡ (g y p).reply
  here : (g y (f x p).word).here ≡ (g y p).here
  word : (g y (f x p).word).word ≡ (f x (g y p).word).word

finds_one : (f g : Outcome) (state : LineState) (b c p : ℕ) → c ≢ b → p < length state.pairs
    → g (box_at (lift f state b p).after c) (pair_at (lift f state b p).after p)
    ≡ g (box_at state c) (f (box_at state b) (pair_at state p)).word
finds_one f g state b c p nb within =
    finds g _ _ _ _ (get_or-set_other state.boxes b c _ no_state nb)
    (get_or-set_same state.pairs p _ opening_pair within)

after_one : (f g : Outcome) (state : LineState) (b c p : ℕ) → b ≢ c → p < length state.pairs
    → AreInOrder f g (box_at state b) (box_at state c) (pair_at state p)
    → AreInOrder g f (box_at state c) (box_at state b) (pair_at state p)
    → (lift g (lift f state b p).after c p).after ≡ (lift f (lift g state c p).after b p).after
after_one f g state b c p nb within there back =
    let first : Told PairState = f (box_at state b) (pair_at state p) in
    let second : Told PairState = g (box_at state c) (pair_at state p) in
    let first' : Told PairState = f (box_at state b) second.word in
    let second' : Told PairState = g (box_at state c) first.word in
    ap (λ (t : Told PairState). (done_at (lift f state b p).after c p t).after)
    (finds_one f g state b c p (λ e. nb (sym e)) within)
    ∙ same_line _ _ _ _
    (ap (λ (h : BoxState). slice_set (slice_set state.boxes b first.here) c h) there.here
    ∙ set_comm state.boxes b c first.here second.here nb
    ∙ ap (λ (h : BoxState). slice_set (slice_set state.boxes c second.here) b h) (sym back.here))
    (set-set state.pairs p first.word second'.word ∙ ap (λ (r : PairState). slice_set state.pairs p r) there.word
    ∙ sym (set-set state.pairs p second.word first'.word))
    ∙ sym (ap (λ (t : Told PairState). (done_at (lift g state c p).after b p t).after)
    (finds_one g f state c b p nb within))

lifts_one : (f g : Outcome) (state : LineState) (b c p q : ℕ) → b ≢ c → p ≡ q → p < length state.pairs
    → AreInOrder f g (box_at state b) (box_at state c) (pair_at state p)
    → AreInOrder g f (box_at state c) (box_at state b) (pair_at state p) → LiftsCommute f g state b c p q
lifts_one f g state b c p q nb e within there back =
    subst (λ (r : ℕ). LiftsCommute f g state b c p r) e (record {
      first = ap (λ (t : Told PairState). t.reply) (finds_one g f state c b p nb within) ∙ back.reply;
      second = ap (λ (t : Told PairState). t.reply) (finds_one f g state b c p (λ e. nb (sym e)) within) ∙ there.reply;
      after = after_one f g state b c p nb within there back;
    })

-- ---- the law

are_in_order : (plan : PlanFields) (state : LineState) (b : ℕ) (call : Call) (c : ℕ) (next : Call) (p : PairState)
    → Apart (kind_at plan state b call) (way_at plan b call) (kind_at plan state c next) (way_at plan c next)
    → AreInOrder (step_at plan (box_plan_of plan b) call) (step_at plan (box_plan_of plan c) next) (box_at state b)
    (box_at state c) p
are_in_order plan state b call c next p apart =
    let both =
    in_order (decision_at plan state b call) (decision_at plan state c next) (way_at plan b call)
    (way_at plan c next) p apart in
    record { reply = both.reply; here = both.here; word = both.word }

-- calls of two boxes on different words come out the same in either order
pub commute : (plan : PlanFields) (state : LineState) (b : ℕ) (call : Call) (c : ℕ) (next : Call) → IsPlan plan
    → IsStateOf plan state → KnowsCall plan b call → KnowsCall plan c next → b ≢ c
    → OnOtherWords plan state b call c next → Commute plan state b call c next
unfolding step
commute plan state b call c next is h known also nb (inl np) =
    let both =
    lifts_apart (step_at plan (box_plan_of plan b) call) (step_at plan (box_plan_of plan c) next) state b c
    (pair_of plan b call) (pair_of plan c next) nb np in
    record { first = both.first; second = both.second; after = both.after }
commute plan state b call c next is h known also nb (inr one) =
    let here = has_places plan state b call is h known in
    let both =
    lifts_one (step_at plan (box_plan_of plan b) call) (step_at plan (box_plan_of plan c) next) state b c
    (pair_of plan b call) (pair_of plan c next) nb one.0 here.pair
    (are_in_order plan state b call c next _ one.1)
    (are_in_order plan state c next b call _
    (apart_sym (kind_at plan state b call) (way_at plan b call) (kind_at plan state c next) (way_at plan c next)
    one.1)) in
    record { first = both.first; second = both.second; after = both.after }
