-- A history is legal exactly where each box may do its part and each entry fits its word.
use Rattle.std.proofs.Common.{ℕ, ◌==◌, ◌≡◌, ◌≢◌, ◌<◌, ⊎_elim, List, [], ◌∷◌}
use Rattle.std.proofs.Common.{false, length, refl, sym, ap, subst, ◌∙◌, slice_set, slice_index_or}
use Rattle.std.proofs.lemmas.Bool.{eq-eqb}
use Rattle.std.proofs.lemmas.Bool.Decides.{eqb_tells}
use Rattle.std.proofs.lemmas.List.{get_or-set_same, get_or-set_other}
use Rattle.line_plan.specs.Plans.{IsPlan, PlanFields}
use Rattle.line_law.specs.declared.call.Entry.{Entry}
use Rattle.line_law.specs.declared.call.Reply.{Reply}
use Rattle.line_law.specs.declared.state.BoxState.{BoxState}
use Rattle.line_law.specs.declared.state.PairState.{PairState}
use Rattle.line_law.specs.Decisions.{Told}
use Rattle.word_laws.specs.Footprint.{way_at}
use Rattle.line_law.specs.History.{IsLegalFrom, after_entry, part_of}
use Rattle.line_law.specs.Law.{MayCall, at_moment, box_plan_of, step, step_at}
use Rattle.line_law.specs.SectionFacts.{decided}
use Rattle.line_law.specs.States.{IsStateOf, LineState, box_at, no_state, pair_at}
use Rattle.word_laws.specs.TellsWord.{kind_told}
use Rattle.line_law.proofs.Lines.{has_places}
use Rattle.line_law.proofs.Keeping.{shape_stays}
use Rattle.line_journal.specs.Fits.{FitsWord}
use Rattle.line_journal.specs.Order.{Each}
use Rattle.line_journal.specs.Halves.{FitFrom, Fits, FitsPair, MayDo, MayDoAll, Stands, made, pair_for, pair_made}
use Rattle.line_journal.proofs.PairFits.{CallLaw, call_law, stands}
use Rattle.line_journal.proofs.WordFits.{Alike}
use Rattle.line_journal.proofs.Exchange.{part_other, part_own}

-- what an entry's call comes to in a state of its box and of its pair
abbrev pub told_on : PlanFields → Entry → BoxState → PairState → Told PairState
told_on plan e here pair = step_at plan (box_plan_of plan e.box_no) e.call here pair

-- in a state
abbrev pub told_in : PlanFields → LineState → Entry → Told PairState
told_in plan state e = told_on plan e (box_at state e.box_no) (pair_at state (pair_for plan e))

-- the reply of the law's step is what the entry's box and its pair tell
pub step_reply : (plan : PlanFields) (state : LineState) (e : Entry)
    → (step plan state e.box_no e.call).reply ≡ (told_in plan state e).reply
unfolding step
step_reply plan state e = refl

step_pairs : (plan : PlanFields) (state : LineState) (e : Entry)
    → (after_entry plan state e).pairs ≡ slice_set state.pairs (pair_for plan e) (told_in plan state e).word
unfolding step
step_pairs plan state e = refl

step_boxes : (plan : PlanFields) (state : LineState) (e : Entry)
    → (after_entry plan state e).boxes ≡ slice_set state.boxes e.box_no (told_in plan state e).here
unfolding step
step_boxes plan state e = refl

law_on : (plan : PlanFields) (e : Entry) (here : BoxState) (p q : PairState)
    → CallLaw (way_at plan e.box_no e.call) e.call.act (decided plan e.box_no e.call here) p q
law_on plan e here p q =
    call_law plan (box_plan_of plan e.box_no) e.call.act (at_moment here e.call.moment) (way_at plan e.box_no e.call) p
    q

-- ---- an entry with the law's reply fits its word, and makes of it what the reply says

pub fits_on : (plan : PlanFields) (e : Entry) (here : BoxState) (p : PairState)
    → e.reply ≡ (told_on plan e here p).reply → FitsPair plan e p
fits_on plan e here p told =
    subst (λ (r : Reply). FitsWord (kind_told r) (way_at plan e.box_no e.call) e.call.act r p) (sym told)
    (law_on plan e here p p).fits

makes_on : (plan : PlanFields) (e : Entry) (here : BoxState) (p : PairState) → e.reply ≡ (told_on plan e here p).reply
    → (told_on plan e here p).word ≡ pair_made plan e p
makes_on plan e here p told =
    (law_on plan e here p p).makes ∙ ap (λ (r : Reply). let f : Entry =
    record { box_no = e.box_no; call = e.call; reply = r } in pair_made plan f p) (sym told)

-- where it fits it comes out alike
again_on : (plan : PlanFields) (e : Entry) (here : BoxState) (p q : PairState) → e.reply ≡ (told_on plan e here p).reply
    → FitsPair plan e q → Alike (told_on plan e here q) (told_on plan e here p)
again_on plan e here p q told fits =
    (law_on plan e here p q).again (subst (λ (r : Reply). FitsWord (kind_told r) (way_at plan e.box_no e.call)
    e.call.act r q) told fits)

-- a reply that the law gives fits its word
pub fits_in : (plan : PlanFields) (state : LineState) (e : Entry) → e.reply ≡ (step plan state e.box_no e.call).reply
    → Fits plan state.pairs e
fits_in plan state e told =
    fits_on plan e (box_at state e.box_no) (pair_at state (pair_for plan e)) (told ∙ step_reply plan state e)

-- and makes of the pairs what it says
pub pairs_after : (plan : PlanFields) (state : LineState) (e : Entry)
    → e.reply ≡ (step plan state e.box_no e.call).reply → (after_entry plan state e).pairs ≡ made plan state.pairs e
pairs_after plan state e told =
    step_pairs plan state e ∙ ap (λ (p : PairState). slice_set state.pairs (pair_for plan e) p)
    (makes_on plan e (box_at state e.box_no) (pair_at state (pair_for plan e)) (told ∙ step_reply plan state e))

-- the boxes after an entry
pub own_after : (plan : PlanFields) (state : LineState) (e : Entry) → e.box_no < length state.boxes
    → box_at (after_entry plan state e) e.box_no ≡ (told_in plan state e).here
own_after plan state e within =
    ap (λ (l : List BoxState). slice_index_or l e.box_no no_state) (step_boxes plan state e)
    ∙ get_or-set_same state.boxes e.box_no _ no_state within

-- a call leaves every other box as it was
pub other_after : (plan : PlanFields) (state : LineState) (e : Entry) (b : ℕ) → b ≢ e.box_no
    → box_at (after_entry plan state e) b ≡ box_at state b
other_after plan state e b ne =
    ap (λ (l : List BoxState). slice_index_or l b no_state) (step_boxes plan state e)
    ∙ get_or-set_other state.boxes e.box_no b _ no_state ne

-- ---- a legal history

-- the entries of a legal history fit their words in turn
pub words_fit : (plan : PlanFields) (state : LineState) (R : List Entry) → IsLegalFrom plan state R
    → FitFrom plan state.pairs R
words_fit plan state [] h = tt
words_fit plan state (e ∷ R) h = (
  fits_in plan state e h.1,
  subst (λ (ps : List PairState). FitFrom plan ps R) (pairs_after plan state e h.1)
      (words_fit plan (after_entry plan state e) R h.2),
)

may_do : (plan : PlanFields) (state : LineState) (e : Entry) → MayCall plan state e.box_no e.call
    → e.reply ≡ (step plan state e.box_no e.call).reply → MayDo plan (box_at state e.box_no) e
may_do plan state e may told =
    record {
      known = may.known;
      later = may.later;
      pair = pair_at state (pair_for plan e);
      told = told ∙ step_reply plan state e;
    }

-- and each box may do its part
pub boxes_do : (plan : PlanFields) (state : LineState) (R : List Entry) → IsPlan plan → IsStateOf plan state
    → IsLegalFrom plan state R → (b : ℕ) → MayDoAll plan (box_at state b) (part_of b R)
unfolding may_do
boxes_do plan state [] is are h b = tt
boxes_do plan state (e ∷ R) is are h b =
    let later = boxes_do plan (after_entry plan state e) R is (shape_stays plan state e.box_no e.call are) h.2 in
    ⊎_elim
    (λ mine.
    let own : MayDoAll plan (box_at state e.box_no) (e ∷ part_of e.box_no R) = (
      may_do plan state e h.0 h.1,
      subst (λ (here : BoxState). MayDoAll plan here (part_of e.box_no R))
          (own_after plan state e (has_places plan state e.box_no e.call is are h.0.known).box) (later e.box_no),
    ) in
    let P : ℕ → Type 0 = λ c. MayDoAll plan (box_at state c) (e ∷ part_of c R) in
    subst (λ (l : List Entry). MayDoAll plan (box_at state b) l) (sym (part_own e R b mine.0)) (subst P mine.1 own))
    (λ other.
    subst (λ (l : List Entry). MayDoAll plan (box_at state b) l) (sym (part_other e R b other.0))
    (subst (λ (here : BoxState). MayDoAll plan here (part_of b R)) (other_after plan state e b (λ h. other.1 (sym h)))
    (later b)))
    (eqb_tells e.box_no b)

-- each of its entries stands in its plan
pub all_stand : (plan : PlanFields) (state : LineState) (R : List Entry) → IsPlan plan → IsLegalFrom plan state R
    → Each (Stands plan) R
all_stand plan state [] is h = tt
all_stand plan state (e ∷ R) is h = (
  stands plan (box_at state e.box_no) e is (may_do plan state e h.0 h.1),
  all_stand plan (after_entry plan state e) R is h.2,
)

-- ---- and back

-- what a box may do next gets its reply wherever that fits
told_again : (plan : PlanFields) (state : LineState) (e : Entry) → (may : MayDo plan (box_at state e.box_no) e)
    → Fits plan state.pairs e → e.reply ≡ (step plan state e.box_no e.call).reply
told_again plan state e may fits =
    may.told ∙ sym (again_on plan e (box_at state e.box_no) may.pair (pair_at state (pair_for plan e)) may.told fits).0
    ∙ sym (step_reply plan state e)

-- and leaves the box as it would elsewhere
pub rest_do : (plan : PlanFields) (state : LineState) (e : Entry) (rest : List Entry) → IsPlan plan
    → IsStateOf plan state → Fits plan state.pairs e → MayDoAll plan (box_at state e.box_no) (e ∷ rest)
    → MayDoAll plan (box_at (after_entry plan state e) e.box_no) rest
rest_do plan state e rest is are fits all =
    let alike = again_on plan e (box_at state e.box_no) all.0.pair (pair_at state (pair_for plan e)) all.0.told fits in
    let same : box_at (after_entry plan state e) e.box_no ≡ (told_on plan e (box_at state e.box_no) all.0.pair).here =
    own_after plan state e (has_places plan state e.box_no e.call is are all.0.known).box ∙ alike.1 in
    subst (λ (here : BoxState). MayDoAll plan here rest) (sym same) all.1

-- the entries of a box that another box's entry leaves to do
others_do : (plan : PlanFields) (state : LineState) (e : Entry) (J : List Entry) (b : ℕ) → b ≢ e.box_no
    → MayDoAll plan (box_at state b) (part_of b J) → MayDoAll plan (box_at (after_entry plan state e) b) (part_of b J)
others_do plan state e J b ne all =
    subst (λ (here : BoxState). MayDoAll plan here (part_of b J)) (sym (other_after plan state e b ne)) all

differ : (e : Entry) (b : ℕ) → b ≢ e.box_no → (e.box_no == b) ≡ false
differ e b ne = ⊎_elim (λ h. absurd (ne (sym h.1))) (λ h. h.0) (eqb_tells e.box_no b)

-- where the words fit and each box may do its part the history is legal
pub is_legal : (plan : PlanFields) (state : LineState) (J : List Entry) → IsPlan plan → IsStateOf plan state
    → ((b : ℕ) → MayDoAll plan (box_at state b) (part_of b J)) → FitFrom plan state.pairs J → IsLegalFrom plan state J
is_legal plan state [] is are all fit = tt
is_legal plan state (e ∷ J) is are all fit =
    let own : MayDoAll plan (box_at state e.box_no) (e ∷ part_of e.box_no J) =
    subst (λ (l : List Entry). MayDoAll plan (box_at state e.box_no) l) (part_own e J e.box_no (eq-eqb _ _ refl))
    (all e.box_no) in
    let told = told_again plan state e own.0 fit.0 in
    let later : (b : ℕ) → MayDoAll plan (box_at (after_entry plan state e) b) (part_of b J) =
    λ b. ⊎_elim
    (λ mine. let P : ℕ → Type 0 = λ c. MayDoAll plan (box_at (after_entry plan state e) c) (part_of c J) in
    subst P (sym mine.1) (rest_do plan state e (part_of e.box_no J) is are fit.0 own))
    (λ other. others_do plan state e J b other.1 (subst (λ (l : List Entry). MayDoAll plan (box_at state b) l)
    (part_other e J b (differ e b other.1)) (all b)))
    (eqb_tells b e.box_no) in (
      record { known = own.0.known; later = own.0.later },
      told,
      is_legal plan (after_entry plan state e) J is (shape_stays plan state e.box_no e.call are) later
          (subst (λ (ps : List PairState). FitFrom plan ps J) (sym (pairs_after plan state e told)) fit.1),
    )

-- what a box may do next is told here exactly where it fits
pub told_where : (plan : PlanFields) (state : LineState) (e : Entry) (rest : List Entry)
    → MayDoAll plan (box_at state e.box_no) (e ∷ rest) → Fits plan state.pairs e
    → e.reply ≡ (step plan state e.box_no e.call).reply
told_where plan state e rest all fits = told_again plan state e all.0 fits
