-- An entry that fits its word here and that nothing keeps back moves ahead of all that stood before it.
use Rattle.std.proofs.Common.{ℕ, ◌-◌, ◌==◌, ◌&&◌, ◌≡◌, ◌≢◌, ◌<◌, ◌⊎◌, inl, inr, ⊎_elim, List, []}
use Rattle.std.proofs.Common.{◌∷◌, Bool, true, false, IsTrue, length, refl, sym, ap, subst, ◌∙◌, arith, slice_set}
use Rattle.std.proofs.lemmas.Bool.{eq-eqb}
use Rattle.std.proofs.lemmas.Bool.Decides.{eqb_tells}
use Rattle.std.proofs.lemmas.List.{get_or-set_same, get_or-set_other, length-set, set-set, set_comm}
use Rattle.block_words.specs.declared.Way.{Way}
use Rattle.line_plan.specs.Frames.{same_way}
use Rattle.line_plan.specs.Plans.{IsPlan, PlanFields}
use Rattle.line_law.specs.declared.call.Act.{Act}
use Rattle.line_law.specs.declared.call.Entry.{Entry}
use Rattle.line_law.specs.declared.call.Reply.{Reply}
use Rattle.line_law.specs.declared.state.PairState.{PairState}
use Rattle.word_laws.specs.Footprint.{Kind, Tally, Apart, way_at}
use Rattle.line_law.specs.History.{part_of}
use Rattle.line_law.specs.Law.{link_of, box_plan_of}
use Rattle.line_law.specs.States.{opening_pair}
use Rattle.word_laws.specs.TellsWord.{kind_told}
use Rattle.line_law.proofs.Sides.{call_within}
use Rattle.line_journal.specs.Fits.{FitsWord, word_made}
use Rattle.line_journal.specs.Order.{Each, keeps_back, kept_back, on_one_word, same_kind, without}
use Rattle.line_journal.specs.Halves.{FitFrom, Fits, FitsPair, Stands, found_at, made, pair_for, pair_made}
use Rattle.line_journal.specs.Exchanges.{AreOnOtherWords, ChangePlaces, IsLost, IsLostOnWord, MayChangePlaces}
use Rattle.line_journal.proofs.PairMoves.{OppositeEnds, PairMoves, apart_lost, apart_swap}
use Rattle.line_journal.proofs.PairMoves.{lost_stays, one_or_two, opposite_ends, pair_moves, word_lost}

-- ---- in the pairs of a line

-- the pairs are those of a plan's line
abbrev pub AreOf : PlanFields → List PairState → Type 0
AreOf plan pairs = length pairs ≡ length plan.boxes - 1

-- an entry leaves as many pairs
pub are_after : (plan : PlanFields) (pairs : List PairState) (e : Entry) → AreOf plan pairs
    → AreOf plan (made plan pairs e)
are_after plan pairs e are = length-set pairs (pair_for plan e) _ ∙ are

-- the pair of an entry is there
pub is_there : (plan : PlanFields) (pairs : List PairState) (e : Entry) → IsPlan plan → AreOf plan pairs → Stands plan e
    → pair_for plan e < length pairs
is_there plan pairs e is are stands =
    let within = call_within plan e.box_no e.call is stands.known in omega (arith, are, within.pair)

-- on different pairs
swaps_apart : (plan : PlanFields) (pairs : List PairState) (e x : Entry) → pair_for plan e ≢ pair_for plan x
    → Fits plan pairs e → Fits plan pairs x → MayChangePlaces plan pairs e x
swaps_apart plan pairs e x ne f g =
    let p : ℕ = pair_for plan e in
    let q : ℕ = pair_for plan x in
    let at_p : found_at (made plan pairs x) p ≡ found_at pairs p = get_or-set_other pairs q p _ opening_pair ne in
    let at_q : found_at (made plan pairs e) q ≡ found_at pairs q =
    get_or-set_other pairs p q _ opening_pair (λ h. ne (sym h)) in
    record {
      first = subst (λ (r : PairState). FitsPair plan e r) (sym at_p) f;
      second = subst (λ (r : PairState). FitsPair plan x r) (sym at_q) g;
      word = ap (λ (r : PairState). slice_set (made plan pairs e) q (pair_made plan x r)) at_q
          ∙ set_comm pairs p q (pair_made plan e (found_at pairs p)) (pair_made plan x (found_at pairs q)) ne
          ∙ sym (ap (λ (r : PairState). slice_set (made plan pairs x) p (pair_made plan e r)) at_p);
    }

-- on one pair
swaps_in : (plan : PlanFields) (pairs : List PairState) (e x : Entry) → pair_for plan e ≡ pair_for plan x
    → pair_for plan e < length pairs
    → ChangePlaces (FitsPair plan e) (FitsPair plan x) (pair_made plan e) (pair_made plan x)
    (found_at pairs (pair_for plan e)) → MayChangePlaces plan pairs e x
swaps_in plan pairs e x one within s =
    let p : ℕ = pair_for plan e in
    let q : ℕ = pair_for plan x in
    let here : PairState = found_at pairs p in
    let there : found_at pairs q ≡ here = ap (λ (k : ℕ). found_at pairs k) (sym one) in
    let after_x : made plan pairs x ≡ slice_set pairs p (pair_made plan x here) =
    ap (λ (r : PairState). slice_set pairs q (pair_made plan x r)) there
    ∙ ap (λ (k : ℕ). slice_set pairs k (pair_made plan x here)) (sym one) in
    let at_p : found_at (made plan pairs x) p ≡ pair_made plan x here =
    ap (λ (ps : List PairState). found_at ps p) after_x ∙ get_or-set_same pairs p _ opening_pair within in
    let at_q : found_at (made plan pairs e) q ≡ pair_made plan e here =
    ap (λ (k : ℕ). found_at (made plan pairs e) k) (sym one) ∙ get_or-set_same pairs p _ opening_pair within in
    record {
      first = subst (λ (r : PairState). FitsPair plan e r) (sym at_p) s.first;
      second = subst (λ (r : PairState). FitsPair plan x r) (sym at_q) s.second;
      word = ap (λ (r : PairState). slice_set (made plan pairs e) q (pair_made plan x r)) at_q
          ∙ ap (λ (k : ℕ). slice_set (made plan pairs e) k (pair_made plan x (pair_made plan e here))) (sym one)
          ∙ set-set pairs p (pair_made plan e here) (pair_made plan x (pair_made plan e here))
          ∙ ap (λ (r : PairState). slice_set pairs p r) s.word
          ∙ sym (set-set pairs p (pair_made plan x here) (pair_made plan e (pair_made plan x here)))
          ∙ sym (ap (λ (ps : List PairState). slice_set ps p (pair_made plan e (pair_made plan x here))) after_x)
          ∙ sym (ap (λ (r : PairState). slice_set (made plan pairs x) p (pair_made plan e r)) at_p);
    }

-- ---- two entries of different boxes

both_true : (a b : Bool) → IsTrue a → IsTrue b → IsTrue (a && b)
both_true true b p q = q
both_true false b p q = absurd (cc p)

-- two entries of different boxes on one word are at its two ends
ends_of : (plan : PlanFields) (e x : Entry) → e.box_no ≢ x.box_no → Stands plan e → Stands plan x
    → kind_told e.reply ≡ kind_told x.reply → (kind_told e.reply ≡ Tally → ⊥) → pair_for plan e ≡ pair_for plan x
    → IsTrue (same_way (way_at plan e.box_no e.call) (way_at plan x.box_no x.call))
    → OppositeEnds (link_of (box_plan_of plan e.box_no) e.call.act) (link_of (box_plan_of plan x.box_no) x.call.act)
ends_of plan e x ne es xs kind no_tally pair way =
    opposite_ends (length plan.boxes) e.box_no x.box_no (link_of (box_plan_of plan e.box_no) e.call.act)
    (link_of (box_plan_of plan x.box_no) x.call.act) ne (es.link no_tally) (xs.link (λ h. no_tally (kind ∙ h))) pair
    way

-- what an entry that fits here owes to one that stands before it
abbrev MovesPast : PlanFields → List PairState → Entry → Entry → Type 0
MovesPast plan pairs e x = MayChangePlaces plan pairs e x ⊎ IsLost plan (made plan pairs x) e

abbrev WordsMeet : PlanFields → Entry → Entry → Type 0
WordsMeet plan e x =
    Apart (kind_told e.reply) (way_at plan e.box_no e.call) (kind_told x.reply) (way_at plan x.box_no x.call)
    ⊎ ((kind_told e.reply ≡ kind_told x.reply) × (kind_told e.reply ≡ Tally → ⊥)
    × IsTrue (same_kind (kind_told e.reply) (kind_told x.reply))
    × IsTrue (same_way (way_at plan e.box_no e.call) (way_at plan x.box_no x.call)))

-- the pair of the other entry is this one's
found_there : (plan : PlanFields) (pairs : List PairState) (e x : Entry) → pair_for plan e ≡ pair_for plan x
    → FitsPair plan x (found_at pairs (pair_for plan x)) → FitsPair plan x (found_at pairs (pair_for plan e))
found_there plan pairs e x one g = subst (λ (k : ℕ). FitsPair plan x (found_at pairs k)) (sym one) g

made_there : (plan : PlanFields) (pairs : List PairState) (e x : Entry) → pair_for plan e ≡ pair_for plan x
    → pair_for plan e < length pairs → found_at (made plan pairs x) (pair_for plan e)
    ≡ pair_made plan x (found_at pairs (pair_for plan e))
made_there plan pairs e x one within =
    ap (λ (k : ℕ). found_at (slice_set pairs k (pair_made plan x (found_at pairs k))) (pair_for plan e)) (sym one)
    ∙ get_or-set_same pairs (pair_for plan e) _ opening_pair within

-- along one kind and one way
word_along : (k l : Kind) (v u : Way) (a : Act) (r : Reply) (c : Act) (q : Reply) (p : PairState) → k ≡ l → v ≡ u
    → PairMoves k v a r c q p
    → IsTrue (kept_back r q) ⊎ (ChangePlaces (FitsWord k v a r) (FitsWord l u c q) (word_made k v a r)
    (word_made l u c q) p ⊎ IsLostOnWord k v r (word_made l u c q p))
word_along k l v u a r c q p e f m =
    subst (λ (l : Kind). IsTrue (kept_back r q) ⊎ (ChangePlaces (FitsWord k v a r) (FitsWord l u c q)
    (word_made k v a r) (word_made l u c q) p ⊎ IsLostOnWord k v r (word_made l u c q p))) e
    (subst (λ (u : Way). IsTrue (kept_back r q) ⊎ (ChangePlaces (FitsWord k v a r) (FitsWord k u c q)
    (word_made k v a r) (word_made k u c q) p ⊎ IsLostOnWord k v r (word_made k u c q p))) f m)

past_word : (plan : PlanFields) (pairs : List PairState) (e x : Entry) → pair_for plan e ≡ pair_for plan x
    → pair_for plan e < length pairs → IsTrue (on_one_word plan e x) → (keeps_back plan e x ≡ true → ⊥)
    → IsTrue (kept_back e.reply x.reply) ⊎ (ChangePlaces (FitsPair plan e) (FitsPair plan x) (pair_made plan e)
    (pair_made plan x) (found_at pairs (pair_for plan e))
    ⊎ IsLostOnWord (kind_told e.reply) (way_at plan e.box_no e.call) e.reply
    (pair_made plan x (found_at pairs (pair_for plan e))))
    → MovesPast plan pairs e x
past_word plan pairs e x one within word free (inl kept) =
    absurd (free (both_true (on_one_word plan e x) (kept_back e.reply x.reply) word kept))
past_word plan pairs e x one within word free (inr (inl s)) = inl (swaps_in plan pairs e x one within s)
past_word plan pairs e x one within word free (inr (inr lost)) =
    inr (subst (λ (r : PairState). IsLostOnWord (kind_told e.reply) (way_at plan e.box_no e.call) e.reply r)
    (sym (made_there plan pairs e x one within)) lost)

past_pair : (plan : PlanFields) (pairs : List PairState) (e x : Entry) → e.box_no ≢ x.box_no → Stands plan e
    → Stands plan x → pair_for plan e < length pairs → pair_for plan e ≡ pair_for plan x → Fits plan pairs e
    → Fits plan pairs x
    → (keeps_back plan e x ≡ true → ⊥) → WordsMeet plan e x → MovesPast plan pairs e x
past_pair plan pairs e x ne es xs within one f g free (inl apart) =
    inl (swaps_in plan pairs e x one within (apart_swap (kind_told e.reply) (way_at plan e.box_no e.call) e.call.act
    e.reply (kind_told x.reply) (way_at plan x.box_no x.call) x.call.act x.reply _ apart f
    (found_there plan pairs e x one g)))
past_pair plan pairs e x ne es xs within one f g free (inr meet) =
    let ends = ends_of plan e x ne es xs meet.0 meet.1 one meet.3 in
    let there : FitsWord (kind_told e.reply) (way_at plan x.box_no x.call) x.call.act x.reply
    (found_at pairs (pair_for plan e)) =
    subst (λ (k : Kind). FitsWord k (way_at plan x.box_no x.call) x.call.act x.reply (found_at pairs (pair_for plan e)))
    (sym meet.0) (found_there plan pairs e x one g) in
    let moves =
    pair_moves (link_of (box_plan_of plan e.box_no) e.call.act) (link_of (box_plan_of plan x.box_no) x.call.act)
    ends (kind_told e.reply) e.call.act x.call.act e.reply x.reply (found_at pairs (pair_for plan e)) meet.1 es.end
    xs.end f there in
    let word : IsTrue (on_one_word plan e x) = both_true _ _ meet.2 (both_true _ _ (eq-eqb _ _ one) meet.3) in
    past_word plan pairs e x one within word free (word_along (kind_told e.reply) (kind_told x.reply)
    (way_at plan e.box_no e.call) (way_at plan x.box_no x.call) e.call.act e.reply x.call.act x.reply _ meet.0
    moves.1 moves.0)

-- an entry that fits here, and that the other doesn't keep back, moves ahead of it, or else it could never be made
pub moves_past : (plan : PlanFields) (pairs : List PairState) (e x : Entry) → IsPlan plan → AreOf plan pairs
    → e.box_no ≢ x.box_no → Stands plan e → Stands plan x → Fits plan pairs e → Fits plan pairs x
    → (keeps_back plan e x ≡ true → ⊥) → MovesPast plan pairs e x
moves_past plan pairs e x is are ne es xs f g free =
    ⊎_elim
    (λ one. past_pair plan pairs e x ne es xs (is_there plan pairs e is are es) one.1 f g free
    (one_or_two (kind_told e.reply) (way_at plan e.box_no e.call) (kind_told x.reply)
    (way_at plan x.box_no x.call)))
    (λ two. inl (swaps_apart plan pairs e x two.1 f g))
    (eqb_tells (pair_for plan e) (pair_for plan x))

-- on different words two entries change places
pub apart_places : (plan : PlanFields) (pairs : List PairState) (e x : Entry) → IsPlan plan → AreOf plan pairs
    → Stands plan e → Fits plan pairs e → Fits plan pairs x → AreOnOtherWords plan e x → MayChangePlaces plan pairs e x
apart_places plan pairs e x is are es f g (inl ne) = swaps_apart plan pairs e x ne f g
apart_places plan pairs e x is are es f g (inr one) =
    swaps_in plan pairs e x one.0 (is_there plan pairs e is are es)
    (apart_swap (kind_told e.reply) (way_at plan e.box_no e.call) e.call.act e.reply (kind_told x.reply)
    (way_at plan x.box_no x.call) x.call.act x.reply _ one.1 f (found_there plan pairs e x one.0 g))

-- ---- what is lost

lost_in : (plan : PlanFields) (pairs : List PairState) (e x : Entry) → e.box_no ≢ x.box_no → Stands plan e
    → Stands plan x → pair_for plan e ≡ pair_for plan x → Fits plan pairs x → WordsMeet plan e x → IsLost plan pairs e
    → IsLostOnWord (kind_told e.reply) (way_at plan e.box_no e.call) e.reply
    (pair_made plan x (found_at pairs (pair_for plan e)))
lost_in plan pairs e x ne es xs one g (inl apart) lost =
    apart_lost (kind_told e.reply) (way_at plan e.box_no e.call) e.reply (kind_told x.reply)
    (way_at plan x.box_no x.call) x.call.act x.reply (found_at pairs (pair_for plan e)) apart lost
lost_in plan pairs e x ne es xs one g (inr meet) lost =
    let ends = ends_of plan e x ne es xs meet.0 meet.1 one meet.3 in
    let there : FitsWord (kind_told e.reply) (way_at plan x.box_no x.call) x.call.act x.reply
    (found_at pairs (pair_for plan e)) =
    subst (λ (k : Kind). FitsWord k (way_at plan x.box_no x.call) x.call.act x.reply (found_at pairs (pair_for plan e)))
    (sym meet.0) (found_there plan pairs e x one g) in
    let stays =
    lost_stays (link_of (box_plan_of plan e.box_no) e.call.act) (link_of (box_plan_of plan x.box_no) x.call.act)
    ends (kind_told e.reply) x.call.act e.reply x.reply (found_at pairs (pair_for plan e)) es.end xs.end there
    lost in
    subst (λ (k : Kind). IsLostOnWord (kind_told e.reply) (way_at plan e.box_no e.call) e.reply
    (word_made k (way_at plan x.box_no x.call) x.call.act x.reply (found_at pairs (pair_for plan e)))) meet.0 stays

-- what is lost stays lost until the box's own next entry
pub lost_next : (plan : PlanFields) (pairs : List PairState) (e x : Entry) → IsPlan plan → AreOf plan pairs
    → e.box_no ≢ x.box_no → Stands plan e → Stands plan x → Fits plan pairs x → IsLost plan pairs e
    → IsLost plan (made plan pairs x) e
lost_next plan pairs e x is are ne es xs g lost =
    let P : PairState → Type 0 = λ r. IsLostOnWord (kind_told e.reply) (way_at plan e.box_no e.call) e.reply r in
    ⊎_elim
    (λ one. subst P (sym (made_there plan pairs e x one.1 (is_there plan pairs e is are es)))
    (lost_in plan pairs e x ne es xs one.1 g (one_or_two (kind_told e.reply) (way_at plan e.box_no e.call)
    (kind_told x.reply) (way_at plan x.box_no x.call)) lost))
    (λ two. subst P (sym (get_or-set_other pairs (pair_for plan x) (pair_for plan e) _ opening_pair two.1)) lost)
    (eqb_tells (pair_for plan e) (pair_for plan x))

-- the same, where a test tells that the other doesn't keep it back
pub changes_places : (plan : PlanFields) (pairs : List PairState) (e x : Entry) → IsPlan plan → AreOf plan pairs
    → e.box_no ≢ x.box_no → Stands plan e → Stands plan x → Fits plan pairs e → Fits plan pairs x
    → keeps_back plan e x ≡ false
    → MayChangePlaces plan pairs e x ⊎ IsLost plan (made plan pairs x) e
changes_places plan pairs e x is are ne es xs f g free =
    moves_past plan pairs e x is are ne es xs f g (λ keep. cc (free, keep))

-- and where it is lost it doesn't fit
pub lost_fits : (plan : PlanFields) (pairs : List PairState) (e : Entry) → IsLost plan pairs e → Fits plan pairs e → ⊥
lost_fits plan pairs e lost fits =
    word_lost (kind_told e.reply) (way_at plan e.box_no e.call) e.call.act e.reply (found_at pairs (pair_for plan e))
    lost fits

-- ---- a box's entries in a history

-- an entry of the box stands first in its part
pub part_own : (x : Entry) (R : List Entry) (b : ℕ) → (x.box_no == b) ≡ true → part_of b (x ∷ R) ≡ x ∷ part_of b R
part_own x R b e = rw e refl

-- and one of another box isn't in it
pub part_other : (x : Entry) (R : List Entry) (b : ℕ) → (x.box_no == b) ≡ false → part_of b (x ∷ R) ≡ part_of b R
part_other x R b e = rw e refl

-- the first entry of the box is taken out
pub without_own : (x : Entry) (R : List Entry) (b : ℕ) → (x.box_no == b) ≡ true → without b (x ∷ R) ≡ R
without_own x R b e = rw e refl

-- and one of another box stays
pub without_other : (x : Entry) (R : List Entry) (b : ℕ) → (x.box_no == b) ≡ false → without b (x ∷ R) ≡ x ∷ without b R
without_other x R b e = rw e refl

head_is : (x e : Entry) (xs es : List Entry) → x ∷ xs ≡ e ∷ es → x ≡ e
head_is x e xs es h = cc

-- an entry that is lost is never made
never_made : (plan : PlanFields) (pairs : List PairState) (R : List Entry) (e : Entry) (rest : List Entry) → IsPlan plan
    → AreOf plan pairs → FitFrom plan pairs R → part_of e.box_no R ≡ e ∷ rest → Each (Stands plan) R → Stands plan e
    → IsLost plan pairs e → ⊥
never_made plan pairs [] e rest is are fit parts stand es lost = cc
never_made plan pairs (x ∷ R) e rest is are fit parts stand es lost =
    ⊎_elim
    (λ mine.
    let xe : x ≡ e = head_is x e _ _ (sym (part_own x R e.box_no mine.0) ∙ parts) in
    word_lost (kind_told e.reply) (way_at plan e.box_no e.call) e.call.act e.reply (found_at pairs (pair_for plan e))
    lost (subst (λ (y : Entry). Fits plan pairs y) xe fit.0))
    (λ other.
    never_made plan (made plan pairs x) R e rest is (are_after plan pairs x are) fit.1
    (sym (part_other x R e.box_no other.0) ∙ parts) stand.1 es
    (lost_next plan pairs e x is are (λ h. other.1 (sym h)) es stand.0 fit.0 lost))
    (eqb_tells x.box_no e.box_no)

-- after an entry no other box has one on its word that keeps it back
abbrev pub NoneKeeps : PlanFields → Entry → List Entry → Type 0
NoneKeeps plan e later = Each (λ x. x.box_no ≢ e.box_no → keeps_back plan e x ≡ true → ⊥) later

-- the exchange: an entry that fits here and that nothing keeps back moves to the front
pub to_front : (plan : PlanFields) (pairs : List PairState) (R : List Entry) (e : Entry) (rest : List Entry)
    → IsPlan plan → AreOf plan pairs → FitFrom plan pairs R → part_of e.box_no R ≡ e ∷ rest → Each (Stands plan) R
    → Stands plan e → Fits plan pairs e
    → NoneKeeps plan e R → FitFrom plan (made plan pairs e) (without e.box_no R)
to_front plan pairs [] e rest is are fit parts stand es f free = absurd cc
to_front plan pairs (x ∷ R) e rest is are fit parts stand es f free =
    ⊎_elim
    (λ mine.
    let xe : x ≡ e = head_is x e _ _ (sym (part_own x R e.box_no mine.0) ∙ parts) in
    subst (λ (l : List Entry). FitFrom plan (made plan pairs e) l) (sym (without_own x R e.box_no mine.0))
    (subst (λ (y : Entry). FitFrom plan (made plan pairs y) R) xe fit.1))
    (λ other.
    let ne : e.box_no ≢ x.box_no = λ h. other.1 (sym h) in
    let later : part_of e.box_no R ≡ e ∷ rest = sym (part_other x R e.box_no other.0) ∙ parts in
    let next : List PairState = made plan pairs x in
    ⊎_elim
    (λ (s : MayChangePlaces plan pairs e x).
    let rest_fit = to_front plan next R e rest is (are_after plan pairs x are) fit.1 later stand.1 es s.first free.1 in
    subst (λ (l : List Entry). FitFrom plan (made plan pairs e) l) (sym (without_other x R e.box_no other.0))
    (s.second, subst (λ (ps : List PairState). FitFrom plan ps (without e.box_no R)) (sym s.word) rest_fit))
    (λ (lost : IsLost plan next e). absurd (never_made plan next R e rest is (are_after plan pairs x are) fit.1 later
    stand.1 es lost))
    (moves_past plan pairs e x is are ne es stand.0 f fit.0 (free.0 other.1)))
    (eqb_tells x.box_no e.box_no)
