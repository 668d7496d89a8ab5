-- Two neighbouring entries of a legal history that don't meet on their word change places.
use Rattle.std.proofs.Common.{ℕ, ◌==◌, ◌≡◌, ◌≢◌, ◌<◌, inl, inr, ⊎_elim, Bool, true, false, IsTrue}
use Rattle.std.proofs.Common.{List, ◌∷◌, ◌++◌, length, refl, sym, ap, subst, ◌∙◌}
use Rattle.std.specs.Prelude.{if◌then◌else◌}
use Rattle.std.proofs.lemmas.Bool.{and_from, and_parts, eq-eqb, eqb-true}
use Rattle.std.proofs.lemmas.Bool.Decides.{eqb_tells}
use Rattle.std.proofs.lemmas.List.{ext_get_or, get_or-set_same, get_or-set_other}
use Rattle.block_words.specs.declared.Way.{Way}
use Rattle.block_words.specs.declared.Way.TheVariants.{Up, Down}
use Rattle.line_plan.specs.Frames.{same_way}
use Rattle.line_plan.specs.Plans.{IsPlan, PlanFields}
use Rattle.line_law.specs.declared.call.Act.{Act}
use Rattle.line_law.specs.declared.call.Entry.{Entry}
use Rattle.line_law.specs.declared.call.Reply.{Reply}
use Rattle.line_law.specs.declared.state.BoxState.{BoxState}
use Rattle.line_law.specs.declared.state.PairState.{PairState}
use Rattle.line_law.specs.History.{IsLegal, IsLegalFrom, after_entry, part_of, state_after, state_of}
use Rattle.line_law.specs.Law.{at_moment, box_plan_of, link_of, step}
use Rattle.line_law.specs.States.{IsStateOf, LineState, box_at, no_state, opening_pair, opening_state, pair_at}
use Rattle.line_law.proofs.Histories.{history_states, legal_both, legal_first, legal_then, state_both}
use Rattle.line_law.proofs.Keeping.{shape_stays}
use Rattle.line_law.proofs.Lines.{has_places}
use Rattle.word_laws.specs.Footprint.{Apart, BellWord, BlockWord, Kind, PlainLineWord, Tally, way_at}
use Rattle.word_laws.specs.TellsWord.{kind_told}
use Rattle.line_journal.specs.Exchanges.{MayChangePlaces}
use Rattle.line_journal.specs.Fits.{FitsWord, word_made}
use Rattle.line_journal.specs.Halves.{FitFrom, Fits, FitsPair, MayDoAll, Stands, found_at, made, pair_for, pair_made}
use Rattle.line_journal.specs.Order.{kept_back, keeps_back, on_one_word, same_kind}
use Rattle.line_journal.proofs.Exchange.{AreOf, is_there, lost_fits, moves_past}
use Rattle.line_journal.proofs.Legal.{all_stand, boxes_do, is_legal, other_after, own_after, pairs_after, step_reply}
use Rattle.line_journal.proofs.Legal.{told_in, told_on, words_fit}
use Rattle.line_journal.proofs.PairFits.{serves}
use Rattle.line_journal.proofs.PairMoves.{one_or_two, opposite_ends}
use Rattle.line_races.specs.Races.{MeetOnWord}
use Rattle.line_races.proofs.Keeping.{is_kept_by}
use Rattle.line_races.proofs.WordBack.{IsUnsought, fits_back}

-- ---- the second fits before the first

-- a fact of a word was so before another word was worked
apart_before : (k : Kind) (v : Way) (a : Act) (r : Reply) (l : Kind) (u : Way) (c : Act) (q : Reply) (p : PairState)
    → Apart k v l u → FitsWord k v a r (word_made l u c q p) → FitsWord k v a r p
apart_before Tally v a r Tally u c q p apart f = f
apart_before Tally v a r BellWord u c q p apart f = f
apart_before Tally v a r BlockWord u c q p apart f = f
apart_before Tally v a r PlainLineWord u c q p apart f = f
apart_before BellWord v a r Tally u c q p apart f = f
apart_before BellWord Up a r BellWord Up c q p apart f = absurd apart
apart_before BellWord Up a r BellWord Down c q p apart f = f
apart_before BellWord Down a r BellWord Up c q p apart f = f
apart_before BellWord Down a r BellWord Down c q p apart f = absurd apart
apart_before BellWord v a r BlockWord u c q p apart f = f
apart_before BellWord v a r PlainLineWord u c q p apart f = f
apart_before BlockWord v a r Tally u c q p apart f = f
apart_before BlockWord v a r BellWord u c q p apart f = f
apart_before BlockWord Up a r BlockWord Up c q p apart f = absurd apart
apart_before BlockWord Up a r BlockWord Down c q p apart f = f
apart_before BlockWord Down a r BlockWord Up c q p apart f = f
apart_before BlockWord Down a r BlockWord Down c q p apart f = absurd apart
apart_before BlockWord v a r PlainLineWord u c q p apart f = f
apart_before PlainLineWord v a r Tally u c q p apart f = f
apart_before PlainLineWord v a r BellWord u c q p apart f = f
apart_before PlainLineWord v a r BlockWord u c q p apart f = f
apart_before PlainLineWord Up a r PlainLineWord Up c q p apart f = absurd apart
apart_before PlainLineWord Up a r PlainLineWord Down c q p apart f = f
apart_before PlainLineWord Down a r PlainLineWord Up c q p apart f = f
apart_before PlainLineWord Down a r PlainLineWord Down c q p apart f = absurd apart

one_way : (v w : Way) → same_way v w ≡ true → v ≡ w
one_way Up Up h = refl
one_way Down Down h = refl
one_way Up Down h = cc
one_way Down Up h = cc

-- entries on one word that don't meet there: the mark of the first isn't looked for by the second
unsought : (plan : PlanFields) (e x : Entry) → e.box_no ≢ x.box_no → on_one_word plan e x ≡ true
    → (MeetOnWord plan e x → ⊥) → IsUnsought e.reply x.reply
unsought plan e x ne word free = record {
  made = λ m left made. free (inl (record { apart = ne; word = word; mark = m; leaves = left; seeks = made }));
  kept = λ m left kept. free (inr (record { apart = ne; word = word; mark = m; leaves = left; seeks = kept }));
}

-- on one word of one pair
word_before : (plan : PlanFields) (e x : Entry) (p : PairState) → e.box_no ≢ x.box_no → Stands plan e → Stands plan x
    → (MeetOnWord plan e x → ⊥) → pair_for plan e ≡ pair_for plan x → kind_told e.reply ≡ kind_told x.reply
    → (kind_told e.reply ≡ Tally → ⊥) → same_kind (kind_told e.reply) (kind_told x.reply) ≡ true
    → same_way (way_at plan e.box_no e.call) (way_at plan x.box_no x.call) ≡ true → FitsPair plan e p
    → FitsPair plan x (pair_made plan e p) → FitsPair plan x p
word_before plan e x p ne es xs free one kind shared kinds ways f g =
    let word : on_one_word plan e x ≡ true = and_from _ _ kinds (and_from _ _ (eq-eqb _ _ one) ways) in
    let ends =
    opposite_ends (length plan.boxes) e.box_no x.box_no (link_of (box_plan_of plan e.box_no) e.call.act)
    (link_of (box_plan_of plan x.box_no) x.call.act) ne (es.link shared) (xs.link (λ h. shared (kind ∙ h))) one ways in
    let there : FitsWord (kind_told e.reply) (way_at plan x.box_no x.call) x.call.act x.reply (pair_made plan e p) =
    subst (λ (k : Kind). FitsWord k (way_at plan x.box_no x.call) x.call.act x.reply (pair_made plan e p)) (sym kind)
    g in
    let back : FitsWord (kind_told e.reply) (way_at plan x.box_no x.call) x.call.act x.reply p =
    fits_back (link_of (box_plan_of plan e.box_no) e.call.act) (link_of (box_plan_of plan x.box_no) x.call.act) ends
    (kind_told e.reply) e.call.act x.call.act e.reply x.reply p es.end xs.end (unsought plan e x ne word free) f
    there in
    subst (λ (k : Kind). FitsWord k (way_at plan x.box_no x.call) x.call.act x.reply p) kind back

pair_before : (plan : PlanFields) (e x : Entry) (p : PairState) → e.box_no ≢ x.box_no → Stands plan e → Stands plan x
    → (MeetOnWord plan e x → ⊥) → pair_for plan e ≡ pair_for plan x → FitsPair plan e p
    → FitsPair plan x (pair_made plan e p) → FitsPair plan x p
pair_before plan e x p ne es xs free one f g =
    ⊎_elim
    (λ apart. apart_before (kind_told x.reply) (way_at plan x.box_no x.call) x.call.act x.reply (kind_told e.reply)
    (way_at plan e.box_no e.call) e.call.act e.reply p apart g)
    (λ meet. word_before plan e x p ne es xs free one (sym meet.0) (λ h. meet.1 (meet.0 ∙ h))
    (other_kind (kind_told x.reply) (kind_told e.reply) meet.0 meet.2)
    (other_way (way_at plan x.box_no x.call) (way_at plan e.box_no e.call) meet.3) f g)
    (one_or_two (kind_told x.reply) (way_at plan x.box_no x.call) (kind_told e.reply) (way_at plan e.box_no e.call))
  where
    other_kind : (k l : Kind) → k ≡ l → IsTrue (same_kind k l) → same_kind l k ≡ true
    other_kind k l same is = ap (λ (m : Kind). same_kind m k) (sym same) ∙ ap (same_kind k) same ∙ is

    other_way : (v w : Way) → IsTrue (same_way v w) → same_way w v ≡ true
    other_way Up Up is = refl
    other_way Down Down is = refl
    other_way Up Down is = absurd (cc is)
    other_way Down Up is = absurd (cc is)

-- the second of two entries that don't meet fits its word before the first
fits_before : (plan : PlanFields) (pairs : List PairState) (e x : Entry) → IsPlan plan → AreOf plan pairs
    → e.box_no ≢ x.box_no → Stands plan e → Stands plan x → (MeetOnWord plan e x → ⊥) → Fits plan pairs e
    → Fits plan (made plan pairs e) x → Fits plan pairs x
fits_before plan pairs e x is are ne es xs free f g =
    ⊎_elim
    (λ one.
    let there : found_at (made plan pairs e) (pair_for plan x) ≡ pair_made plan e (found_at pairs (pair_for plan x)) =
    subst (λ (k : ℕ). found_at (made plan pairs e) k ≡ pair_made plan e (found_at pairs k)) one.1
    (get_or-set_same pairs (pair_for plan e) _ opening_pair (is_there plan pairs e is are es)) in
    pair_before plan e x (found_at pairs (pair_for plan x)) ne es xs free one.1
    (subst (λ (k : ℕ). FitsPair plan e (found_at pairs k)) one.1 f)
    (subst (λ (p : PairState). FitsPair plan x p) there g))
    (λ two.
    subst (λ (p : PairState). FitsPair plan x p)
    (get_or-set_other pairs (pair_for plan e) (pair_for plan x) _ opening_pair (λ h. two.1 (sym h))) g)
    (eqb_tells (pair_for plan e) (pair_for plan x))

-- ---- and the first fits behind it

same_kind_back : (k l : Kind) → same_kind k l ≡ true → same_kind l k ≡ true
same_kind_back BellWord BellWord h = refl
same_kind_back BlockWord BlockWord h = refl
same_kind_back PlainLineWord PlainLineWord h = refl
same_kind_back k l h = absurd cc

-- the second isn't kept back by the first
unkept : (plan : PlanFields) (pairs : List PairState) (e x : Entry) → e.box_no ≢ x.box_no
    → (MeetOnWord plan e x → ⊥) → Fits plan pairs e → Fits plan pairs x → keeps_back plan x e ≡ true → ⊥
unkept plan pairs e x ne free f g keeps =
    let both = and_parts (on_one_word plan x e) (kept_back x.reply e.reply) keeps in
    let kinds = and_parts (same_kind (kind_told x.reply) (kind_told e.reply)) _ both.0 in
    let line = and_parts (pair_for plan x == pair_for plan e) _ kinds.1 in
    let one : pair_for plan x ≡ pair_for plan e = eqb-true (pair_for plan x) (pair_for plan e) line.0 in
    let way : way_at plan x.box_no x.call ≡ way_at plan e.box_no e.call = one_way _ _ line.1 in
    let here : FitsWord (kind_told x.reply) (way_at plan e.box_no e.call) x.call.act x.reply
    (found_at pairs (pair_for plan e)) =
    subst (λ (v : Way). FitsWord (kind_told x.reply) v x.call.act x.reply (found_at pairs (pair_for plan e))) way
    (subst (λ (k : ℕ). FitsPair plan x (found_at pairs k)) one g) in
    let kept = is_kept_by x.reply e.reply e.call.act x.call.act (way_at plan e.box_no e.call)
    (found_at pairs (pair_for plan e)) both.1 f here in
    let word : on_one_word plan e x ≡ true =
    and_from _ _ (same_kind_back (kind_told x.reply) (kind_told e.reply) kinds.0)
    (and_from _ _ (eq-eqb _ _ (sym one)) (ap (λ (v : Way). same_way (way_at plan e.box_no e.call) v) way ∙ itself _)) in
    free (inr (record { apart = ne; word = word; mark = kept.mark; leaves = kept.left; seeks = kept.keeps }))
  where
    itself : (v : Way) → same_way v v ≡ true
    itself Up = refl
    itself Down = refl

change : (plan : PlanFields) (pairs : List PairState) (e x : Entry) → IsPlan plan → AreOf plan pairs
    → e.box_no ≢ x.box_no → Stands plan e → Stands plan x → (MeetOnWord plan e x → ⊥) → Fits plan pairs e
    → Fits plan (made plan pairs e) x → Fits plan pairs x → MayChangePlaces plan pairs x e
change plan pairs e x is are ne es xs free f g before =
    ⊎_elim (λ changes. changes) (λ lost. absurd (lost_fits plan (made plan pairs e) x lost g))
    (moves_past plan pairs x e is are (λ h. ne (sym h)) xs es before f (unkept plan pairs e x ne free f before))

-- ---- in a history

-- the parts of two entries of different boxes are the same in either order
parts_alike : (b : ℕ) (e x : Entry) (more : List Entry) → e.box_no ≢ x.box_no
    → part_of b (e ∷ x ∷ more) ≡ part_of b (x ∷ e ∷ more)
parts_alike b e x more ne = alike (e.box_no == b) (x.box_no == b) refl refl
  where
    both : List Entry → Bool → Bool → List Entry
    both rest s t = if s then e ∷ (if t then x ∷ rest else rest) else (if t then x ∷ rest else rest)

    back : List Entry → Bool → Bool → List Entry
    back rest s t = if t then x ∷ (if s then e ∷ rest else rest) else (if s then e ∷ rest else rest)

    alike : (s t : Bool) → (e.box_no == b) ≡ s → (x.box_no == b) ≡ t
        → both (part_of b more) s t ≡ back (part_of b more) s t
    alike true true h g = absurd (ne (eqb-true e.box_no b h ∙ sym (eqb-true x.box_no b g)))
    alike true false h g = refl
    alike false true h g = refl
    alike false false h g = refl

-- two entries that may change places, in a state from which both orders are legal
pub record ChangesPlaces (plan : PlanFields) (state : LineState) (e x : Entry) (more : List Entry) : Type 0 where
  pub places : MayChangePlaces plan state.pairs x e
  pub legal : IsLegalFrom plan state (x ∷ e ∷ more)

places_changed : (plan : PlanFields) (state : LineState) (e x : Entry) (more : List Entry) → IsPlan plan
    → IsStateOf plan state → e.box_no ≢ x.box_no → (MeetOnWord plan e x → ⊥)
    → IsLegalFrom plan state (e ∷ x ∷ more) → ChangesPlaces plan state e x more
places_changed plan state e x more is are ne free legal =
    let fit = words_fit plan state (e ∷ x ∷ more) legal in
    let stand = all_stand plan state (e ∷ x ∷ more) is legal in
    let before = fits_before plan state.pairs e x is are.pairs ne stand.0 stand.1.0 free fit.0 fit.1.0 in
    let places = change plan state.pairs e x is are.pairs ne stand.0 stand.1.0 free fit.0 fit.1.0 before in
    let again : FitFrom plan state.pairs (x ∷ e ∷ more) =
    (before, (places.second, subst (λ (ps : List PairState). FitFrom plan ps more) (sym places.word) fit.1.1)) in
    record {
      places = places;
      legal = is_legal plan state (x ∷ e ∷ more) is are (λ b.
          subst (λ (part : List Entry). MayDoAll plan (box_at state b) part) (parts_alike b e x more ne)
          (boxes_do plan state (e ∷ x ∷ more) is are legal b)) again;
    }

-- the history in which they have changed places is legal
pub legal_places : (plan : PlanFields) (es more : List Entry) (e x : Entry) → IsPlan plan
    → IsLegal plan (es ++ e ∷ x ∷ more) → e.box_no ≢ x.box_no → (MeetOnWord plan e x → ⊥)
    → IsLegal plan (es ++ x ∷ e ∷ more)
legal_places plan es more e x is legal ne free =
    legal_both plan (opening_state plan) es (x ∷ e ∷ more)
    (legal_first plan (opening_state plan) es (e ∷ x ∷ more) legal)
    (places_changed plan (state_of plan es) e x more is (history_states plan es) ne free
    (legal_then plan (opening_state plan) es (e ∷ x ∷ more) legal)).legal

-- ---- and ends in the same state

same_state : (s t : LineState) → s.boxes ≡ t.boxes → s.pairs ≡ t.pairs → s ≡ t
same_state s t boxes pairs = λ i. record { boxes = boxes i; pairs = pairs i }

-- an entry with the law's reply on two pairs leaves its box alike
here_alike : (plan : PlanFields) (e : Entry) (here : BoxState) (p q : PairState)
    → e.reply ≡ (told_on plan e here p).reply → e.reply ≡ (told_on plan e here q).reply
    → (told_on plan e here q).here ≡ (told_on plan e here p).here
here_alike plan e here p q first other =
    (serves plan (box_plan_of plan e.box_no) e.call.act (at_moment here e.call.moment) (way_at plan e.box_no e.call) p
    q).here
    (sym other ∙ first)

-- an entry leaves its box alike in two states in which the box stands alike
box_alike : (plan : PlanFields) (s t : LineState) (e : Entry) → e.box_no < length s.boxes → e.box_no < length t.boxes
    → box_at t e.box_no ≡ box_at s e.box_no → e.reply ≡ (step plan s e.box_no e.call).reply
    → e.reply ≡ (step plan t e.box_no e.call).reply
    → box_at (after_entry plan t e) e.box_no ≡ box_at (after_entry plan s e) e.box_no
box_alike plan s t e in_s in_t same told_s told_t =
    let at_t : (told_in plan t e).here ≡ (told_on plan e (box_at s e.box_no) (pair_at t (pair_for plan e))).here =
    ap (λ (here : BoxState). (told_on plan e here (pair_at t (pair_for plan e))).here) same in
    let reply_t : e.reply ≡ (told_on plan e (box_at s e.box_no) (pair_at t (pair_for plan e))).reply =
    told_t ∙ step_reply plan t e
    ∙ ap (λ (here : BoxState). (told_on plan e here (pair_at t (pair_for plan e))).reply) same in
    own_after plan t e in_t ∙ at_t
    ∙ here_alike plan e (box_at s e.box_no) (pair_at s (pair_for plan e)) (pair_at t (pair_for plan e))
    (told_s ∙ step_reply plan s e) reply_t
    ∙ sym (own_after plan s e in_s)

module _ (plan : PlanFields) (state : LineState) (e x : Entry) (more : List Entry) (is : IsPlan plan)
    (are : IsStateOf plan state) (ne : e.box_no ≢ x.box_no) (legal : IsLegalFrom plan state (e ∷ x ∷ more))
    (changes : ChangesPlaces plan state e x more) where
  abbrev after_e : LineState
  after_e = after_entry plan state e

  abbrev after_x : LineState
  after_x = after_entry plan state x

  are_e : IsStateOf plan after_e
  are_e = shape_stays plan state e.box_no e.call are

  are_x : IsStateOf plan after_x
  are_x = shape_stays plan state x.box_no x.call are

  -- box b in the two states behind both
  box_of_both : (b : ℕ) → box_at (after_entry plan after_x e) b ≡ box_at (after_entry plan after_e x) b
  box_of_both b =
      ⊎_elim
      (λ mine.
      let own : box_at (after_entry plan after_x e) e.box_no ≡ box_at (after_entry plan after_e x) e.box_no =
      box_alike plan state after_x e (has_places plan state e.box_no e.call is are legal.0.known).box
      (has_places plan after_x e.box_no e.call is are_x changes.legal.2.0.known).box
      (other_after plan state x e.box_no ne) legal.1 changes.legal.2.1
      ∙ sym (other_after plan after_e x e.box_no ne) in
      subst (λ (c : ℕ). box_at (after_entry plan after_x e) c ≡ box_at (after_entry plan after_e x) c) mine.1 own)
      (λ other.
      ⊎_elim
      (λ its.
      let own : box_at (after_entry plan after_x e) x.box_no ≡ box_at (after_entry plan after_e x) x.box_no =
      other_after plan after_x e x.box_no (λ h. ne (sym h))
      ∙ sym (box_alike plan state after_e x
      (has_places plan state x.box_no x.call is are changes.legal.0.known).box
      (has_places plan after_e x.box_no x.call is are_e legal.2.0.known).box
      (other_after plan state e x.box_no (λ h. ne (sym h))) changes.legal.1 legal.2.1) in
      subst (λ (c : ℕ). box_at (after_entry plan after_x e) c ≡ box_at (after_entry plan after_e x) c) its.1 own)
      (λ third.
      other_after plan after_x e b (λ h. other.1 (sym h)) ∙ other_after plan state x b (λ h. third.1 (sym h))
      ∙ sym (other_after plan state e b (λ h. other.1 (sym h)))
      ∙ sym (other_after plan after_e x b (λ h. third.1 (sym h))))
      (eqb_tells x.box_no b))
      (eqb_tells e.box_no b)

  boxes_of_both : (after_entry plan after_x e).boxes ≡ (after_entry plan after_e x).boxes
  boxes_of_both =
      ext_get_or no_state (after_entry plan after_x e).boxes (after_entry plan after_e x).boxes
      ((shape_stays plan after_x e.box_no e.call are_x).boxes
      ∙ sym (shape_stays plan after_e x.box_no x.call are_e).boxes)
      (λ b within. box_of_both b)

  pairs_of_both : (after_entry plan after_x e).pairs ≡ (after_entry plan after_e x).pairs
  pairs_of_both =
      pairs_after plan after_x e changes.legal.2.1
      ∙ ap (λ (ps : List PairState). made plan ps e) (pairs_after plan state x changes.legal.1)
      ∙ changes.places.word
      ∙ sym (ap (λ (ps : List PairState). made plan ps x) (pairs_after plan state e legal.1))
      ∙ sym (pairs_after plan after_e x legal.2.1)

  pub both_after : after_entry plan after_x e ≡ after_entry plan after_e x
  both_after = same_state (after_entry plan after_x e) (after_entry plan after_e x) boxes_of_both pairs_of_both

-- the history in which they have changed places ends in the same state
pub state_places : (plan : PlanFields) (es more : List Entry) (e x : Entry) → IsPlan plan
    → IsLegal plan (es ++ e ∷ x ∷ more) → e.box_no ≢ x.box_no → (MeetOnWord plan e x → ⊥)
    → state_of plan (es ++ x ∷ e ∷ more) ≡ state_of plan (es ++ e ∷ x ∷ more)
state_places plan es more e x is legal ne free =
    let rest = legal_then plan (opening_state plan) es (e ∷ x ∷ more) legal in
    let shape = history_states plan es in
    state_both plan (opening_state plan) es (x ∷ e ∷ more)
    ∙ ap (λ (s : LineState). state_after plan s more)
    (both_after plan (state_of plan es) e x more is shape ne rest
    (places_changed plan (state_of plan es) e x more is shape ne free rest))
    ∙ sym (state_both plan (opening_state plan) es (e ∷ x ∷ more))
