-- After an entry on a bell or an instrument nothing later on that word keeps it back.
use Rattle.std.proofs.Common.{ℕ, ◌+◌, ◌==◌, ◌&&◌, ◌≡◌, ◌<◌, ◌≤◌, ◌⊎◌, inl, inr, ⊎_elim, List, []}
use Rattle.std.proofs.Common.{◌∷◌, None, Bool, true, false, IsTrue, length, refl, sym, subst, ◌∙◌, arith}
use Rattle.std.proofs.lemmas.Bool.{eqb-true, ltb-true}
use Rattle.std.proofs.lemmas.Bool.Decides.{eqb_tells}
use Rattle.std.proofs.lemmas.List.{get_or-set_same, get_or-set_other}
use Rattle.block_words.specs.declared.Way.{Way}
use Rattle.block_words.specs.declared.Way.TheVariants.{Up, Down}
use Rattle.line_plan.specs.Frames.{same_way}
use Rattle.line_plan.specs.Plans.{IsPlan, PlanFields}
use Rattle.line_law.specs.declared.call.Act.{Act}
use Rattle.line_law.specs.declared.call.Entry.{Entry}
use Rattle.line_law.specs.declared.call.Reply.{Reply}
use Rattle.line_law.specs.declared.call.Reply.TheVariants.{Rung, BellBusy, Heard, Silent, BellNotYet}
use Rattle.line_law.specs.declared.call.Reply.TheVariants.{Turned, Seen, BlockNotYet, PulledUnder, HeldByInstrument}
use Rattle.line_law.specs.declared.call.Reply.TheVariants.{Entered, Berthed, Cleared}
use Rattle.line_law.specs.declared.state.Bell.{Bell}
use Rattle.line_law.specs.declared.state.Block.{Block}
use Rattle.line_law.specs.declared.state.PairState.{PairState}
use Rattle.word_laws.specs.Footprint.{Kind, Tally, BellWord, BlockWord, PlainLineWord, Apart, way_at}
use Rattle.line_law.specs.States.{opening_pair}
use Rattle.word_laws.specs.TellsWord.{kind_told}
use Rattle.line_law.specs.Ways.{of_way}
use Rattle.line_journal.specs.Fits.{FitsBell, FitsBlock, FitsWord, bell_made, block_made, word_made}
use Rattle.line_journal.specs.Order.{Each, keeps_back, kept_back, on_one_word, same_kind}
use Rattle.line_journal.specs.Halves.{FitFrom, Fits, FitsPair, Stands, found_at, made, pair_for, pair_made}
use Rattle.line_journal.proofs.PairMoves.{one_or_two}
use Rattle.line_journal.proofs.Exchange.{AreOf, NoneKeeps, are_after, is_there}

-- ---- a word

-- what stays so of a bell after a reply there
abbrev pub PastBell : Reply → Bell → Type 0
PastBell (Rung k) bell = k ≤ bell.count
PastBell (Heard code k) bell = (k < bell.count) ⊎ ((bell.count ≡ k) × (bell.unheard ≡ None))
PastBell reply bell = Unit {0}

-- and of an instrument
abbrev pub PastBlock : Reply → Block → Type 0
PastBlock (Turned v) block = v ≤ block.turns
PastBlock reply block = Unit {0}

bell_begins : (a : Act) (r : Reply) (w : Bell) → FitsBell r w → PastBell r (bell_made a r w)
bell_begins a (Rung k) w f = omega arith
bell_begins a (Heard code k) w f = inr (refl, refl)
bell_begins a r w f = tt

above_stays : (c : Act) (k : ℕ) (q : Reply) (w : Bell) → FitsBell q w → k ≤ w.count → k ≤ (bell_made c q w).count
above_stays c k (Rung n) w g h = omega (arith, g.0, h)
above_stays c k (Heard code n) w g h = omega (arith, g.0, h)
above_stays c k q w g h = h

higher_stays : (c : Act) (k : ℕ) (q : Reply) (w : Bell) → FitsBell q w → k < w.count → k < (bell_made c q w).count
higher_stays c k (Rung n) w g h = omega (arith, g.0, h)
higher_stays c k (Heard code n) w g h = omega (arith, g.0, h)
higher_stays c k q w g h = h

off_or_higher : (c : Act) (k : ℕ) (q : Reply) (w : Bell) → FitsBell q w → w.count ≡ k → w.unheard ≡ None
    → (k < (bell_made c q w).count) ⊎ (((bell_made c q w).count ≡ k) × ((bell_made c q w).unheard ≡ None))
off_or_higher c k (Rung n) w g e off = inl (omega (arith, g.0, e))
off_or_higher c k (Heard code n) w g e off = inr (sym g.0 ∙ e, refl)
off_or_higher c k q w g e off = inr (e, off)

heard_stays : (c : Act) (k : ℕ) (q : Reply) (w : Bell) → FitsBell q w
    → (k < w.count) ⊎ ((w.count ≡ k) × (w.unheard ≡ None)) → (k < (bell_made c q w).count)
    ⊎ (((bell_made c q w).count ≡ k) × ((bell_made c q w).unheard ≡ None))
heard_stays c k q w g (inl h) = inl (higher_stays c k q w g h)
heard_stays c k q w g (inr h) = off_or_higher c k q w g h.0 h.1

bell_stays : (c : Act) (r q : Reply) (w : Bell) → FitsBell q w → PastBell r w → PastBell r (bell_made c q w)
bell_stays c (Rung k) q w g h = above_stays c k q w g h
bell_stays c (Heard code k) q w g h = heard_stays c k q w g h
bell_stays c r q w g h = tt

block_begins : (a : Act) (r : Reply) (w : Block) → PastBlock r (block_made a r w)
block_begins a (Turned v) w = omega arith
block_begins a r w = tt

turns_stay : (c : Act) (v : ℕ) (q : Reply) (w : Block) → FitsBlock c q w → v ≤ w.turns → v ≤ (block_made c q w).turns
turns_stay c v (Turned n) w g h = omega (arith, g, h)
turns_stay c v q w g h = h

block_stays : (c : Act) (r q : Reply) (w : Block) → FitsBlock c q w → PastBlock r w → PastBlock r (block_made c q w)
block_stays c (Turned v) q w g h = turns_stay c v q w g h
block_stays c r q w g h = tt

-- no later reply keeps it back

rung_clear : (k : ℕ) (q : Reply) (w : Bell) → k ≤ w.count → FitsBell q w → kept_back (Rung k) q ≡ true → ⊥
rung_clear k (Silent n) w past g kept = let e = eqb-true (n + 1) k kept in omega (arith, e, g.0, past)
rung_clear k (BellNotYet shown n) w past g kept = let e = eqb-true (n + 1) k kept in omega (arith, e, g.0, past)
rung_clear k q w past g kept = cc

heard_clear : (k code : ℕ) (q : Reply) (w : Bell) → (k < w.count) ⊎ ((w.count ≡ k) × (w.unheard ≡ None)) → FitsBell q w
    → kept_back (Heard code k) q ≡ true → ⊥
heard_clear k code (BellBusy held n) w (inl h) g kept = let e = eqb-true n k kept in omega (arith, e, g.0, h)
heard_clear k code (BellBusy held n) w (inr h) g kept = let off = h.1 in let on = g.1 in cc (off, on)
heard_clear k code q w past g kept = cc

turned_clear : (c : Act) (v : ℕ) (q : Reply) (w : Block) → v ≤ w.turns → FitsBlock c q w → kept_back (Turned v) q ≡ true
    → ⊥
turned_clear c v (PulledUnder n) w past g kept = let e = ltb-true n v kept in omega (arith, e, g.0, past)
turned_clear c v (HeldByInstrument way shown spent n) w past g kept =
    let e = ltb-true n v kept in omega (arith, e, g.0, past)
turned_clear c v (Seen n) w past g kept = let e = ltb-true n v kept in omega (arith, e, g.0, past)
turned_clear c v (BlockNotYet shown n) w past g kept = let e = ltb-true n v kept in omega (arith, e, g.0, past)
turned_clear c v q w past g kept = cc

bell_clear : (r q : Reply) (w : Bell) → kind_told r ≡ BellWord → PastBell r w → FitsBell q w → kept_back r q ≡ true → ⊥
bell_clear (Rung k) q w kind past g kept = rung_clear k q w past g kept
bell_clear (Heard code k) q w kind past g kept = heard_clear k code q w past g kept
bell_clear (Turned v) q w kind past g kept = cc
bell_clear (Entered train k) q w kind past g kept = cc
bell_clear (Berthed train j) q w kind past g kept = cc
bell_clear (Cleared train j) q w kind past g kept = cc
bell_clear r q w kind past g kept = cc

block_clear : (c : Act) (r q : Reply) (w : Block) → kind_told r ≡ BlockWord → PastBlock r w → FitsBlock c q w
    → kept_back r q ≡ true → ⊥
block_clear c (Turned v) q w kind past g kept = turned_clear c v q w past g kept
block_clear c (Rung k) q w kind past g kept = cc
block_clear c (Heard code k) q w kind past g kept = cc
block_clear c (Entered train k) q w kind past g kept = cc
block_clear c (Berthed train j) q w kind past g kept = cc
block_clear c (Cleared train j) q w kind past g kept = cc
block_clear c r q w kind past g kept = cc

-- ---- a pair

abbrev pub PastWord : Kind → Way → Reply → PairState → Type 0
PastWord Tally way r pair = Unit {0}
PastWord BellWord way r pair = PastBell r (of_way pair.bells way)
PastWord BlockWord way r pair = PastBlock r (of_way pair.blocks way)
PastWord PlainLineWord way r pair = Unit {0}

word_begins : (k : Kind) (v : Way) (a : Act) (r : Reply) (p : PairState) → FitsWord k v a r p
    → PastWord k v r (word_made k v a r p)
word_begins Tally v a r p f = tt
word_begins BellWord Up a r p f = bell_begins a r p.bells.up f
word_begins BellWord Down a r p f = bell_begins a r p.bells.down f
word_begins BlockWord Up a r p f = block_begins a r p.blocks.up
word_begins BlockWord Down a r p f = block_begins a r p.blocks.down
word_begins PlainLineWord v a r p f = tt

word_stays : (k : Kind) (v : Way) (c : Act) (r q : Reply) (p : PairState) → FitsWord k v c q p → PastWord k v r p
    → PastWord k v r (word_made k v c q p)
word_stays Tally v c r q p g past = tt
word_stays BellWord Up c r q p g past = bell_stays c r q p.bells.up g past
word_stays BellWord Down c r q p g past = bell_stays c r q p.bells.down g past
word_stays BlockWord Up c r q p g past = block_stays c r q p.blocks.up g past
word_stays BlockWord Down c r q p g past = block_stays c r q p.blocks.down g past
word_stays PlainLineWord v c r q p g past = tt

word_clear : (k : Kind) (v : Way) (c : Act) (r q : Reply) (p : PairState) → kind_told r ≡ k → (k ≡ Tally → ⊥)
    → (k ≡ PlainLineWord → ⊥) → PastWord k v r p → FitsWord k v c q p → kept_back r q ≡ true → ⊥
word_clear Tally v c r q p kind tally line past g kept = tally refl
word_clear BellWord v c r q p kind tally line past g kept = bell_clear r q (of_way p.bells v) kind past g kept
word_clear BlockWord v c r q p kind tally line past g kept = block_clear c r q (of_way p.blocks v) kind past g kept
word_clear PlainLineWord v c r q p kind tally line past g kept = line refl

apart_past : (k : Kind) (v : Way) (r : Reply) (l : Kind) (u : Way) (c : Act) (q : Reply) (p : PairState) → Apart k v l u
    → PastWord k v r p → PastWord k v r (word_made l u c q p)
apart_past Tally v r Tally u c q p apart f = f
apart_past Tally v r BellWord u c q p apart f = f
apart_past Tally v r BlockWord u c q p apart f = f
apart_past Tally v r PlainLineWord u c q p apart f = f
apart_past BellWord v r Tally u c q p apart f = f
apart_past BellWord Up r BellWord Up c q p apart f = absurd apart
apart_past BellWord Up r BellWord Down c q p apart f = f
apart_past BellWord Down r BellWord Up c q p apart f = f
apart_past BellWord Down r BellWord Down c q p apart f = absurd apart
apart_past BellWord v r BlockWord u c q p apart f = f
apart_past BellWord v r PlainLineWord u c q p apart f = f
apart_past BlockWord v r Tally u c q p apart f = f
apart_past BlockWord v r BellWord u c q p apart f = f
apart_past BlockWord Up r BlockWord Up c q p apart f = absurd apart
apart_past BlockWord Up r BlockWord Down c q p apart f = f
apart_past BlockWord Down r BlockWord Up c q p apart f = f
apart_past BlockWord Down r BlockWord Down c q p apart f = absurd apart
apart_past BlockWord v r PlainLineWord u c q p apart f = f
apart_past PlainLineWord v r Tally u c q p apart f = f
apart_past PlainLineWord v r BellWord u c q p apart f = f
apart_past PlainLineWord v r BlockWord u c q p apart f = f
apart_past PlainLineWord Up r PlainLineWord Up c q p apart f = absurd apart
apart_past PlainLineWord Up r PlainLineWord Down c q p apart f = f
apart_past PlainLineWord Down r PlainLineWord Up c q p apart f = f
apart_past PlainLineWord Down r PlainLineWord Down c q p apart f = absurd apart

-- ---- a line

pub one_way : (v u : Way) → IsTrue (same_way v u) → v ≡ u
one_way Up Up h = refl
one_way Up Down h = cc
one_way Down Up h = cc
one_way Down Down h = refl

-- what an entry leaves of its word stays
abbrev pub Past : PlanFields → List PairState → Entry → Type 0
Past plan pairs e =
    PastWord (kind_told e.reply) (way_at plan e.box_no e.call) e.reply (found_at pairs (pair_for plan e))

past_begins : (plan : PlanFields) (pairs : List PairState) (e : Entry) → pair_for plan e < length pairs
    → Fits plan pairs e → Past plan (made plan pairs e) e
past_begins plan pairs e within f =
    subst (λ (r : PairState). PastWord (kind_told e.reply) (way_at plan e.box_no e.call) e.reply r)
    (sym (get_or-set_same pairs (pair_for plan e) _ opening_pair within))
    (word_begins (kind_told e.reply) (way_at plan e.box_no e.call) e.call.act e.reply (found_at pairs (pair_for plan e))
    f)

abbrev Meet : PlanFields → Entry → Entry → Type 0
Meet plan e x =
    Apart (kind_told e.reply) (way_at plan e.box_no e.call) (kind_told x.reply) (way_at plan x.box_no x.call)
    ⊎ ((kind_told e.reply ≡ kind_told x.reply) × (kind_told e.reply ≡ Tally → ⊥)
    × IsTrue (same_kind (kind_told e.reply) (kind_told x.reply))
    × IsTrue (same_way (way_at plan e.box_no e.call) (way_at plan x.box_no x.call)))

past_in : (plan : PlanFields) (e x : Entry) (p : PairState) → FitsPair plan x p → Meet plan e x
    → PastWord (kind_told e.reply) (way_at plan e.box_no e.call) e.reply p
    → PastWord (kind_told e.reply) (way_at plan e.box_no e.call) e.reply (pair_made plan x p)
past_in plan e x p g (inl apart) past =
    apart_past (kind_told e.reply) (way_at plan e.box_no e.call) e.reply (kind_told x.reply)
    (way_at plan x.box_no x.call) x.call.act x.reply p apart past
past_in plan e x p g (inr meet) past =
    let K : Kind → Way → Type 0 =
    λ k v. FitsWord k v x.call.act x.reply p → PastWord k v e.reply p
    → PastWord (kind_told e.reply) (way_at plan e.box_no e.call) e.reply (word_made k v x.call.act x.reply p) in
    let P : Kind → Way → Type 0 = λ k v. PastWord k v e.reply p in
    let one = one_way (way_at plan e.box_no e.call) (way_at plan x.box_no x.call) meet.3 in
    let Q : Kind → Way → Type 0 =
    λ k v. FitsWord k v x.call.act x.reply p → PastWord (kind_told e.reply) (way_at plan e.box_no e.call) e.reply
    (word_made k v x.call.act x.reply p) in
    let here : Q (kind_told e.reply) (way_at plan e.box_no e.call) =
    λ h. word_stays (kind_told e.reply) (way_at plan e.box_no e.call) x.call.act e.reply x.reply p h past in
    subst (λ (k : Kind). Q k (way_at plan x.box_no x.call)) meet.0
    (subst (λ (v : Way). Q (kind_told e.reply) v) one here) g

past_next : (plan : PlanFields) (pairs : List PairState) (e x : Entry) → pair_for plan x < length pairs
    → Fits plan pairs x → Past plan pairs e → Past plan (made plan pairs x) e
past_next plan pairs e x within g past =
    let P : PairState → Type 0 = λ r. PastWord (kind_told e.reply) (way_at plan e.box_no e.call) e.reply r in
    ⊎_elim
    (λ one.
    let Q : ℕ → Type 0 = λ k. P (found_at (made plan pairs x) k) in
    let there : P (found_at pairs (pair_for plan x)) = subst (λ (k : ℕ). P (found_at pairs k)) one.1 past in
    subst Q (sym one.1) (subst P (sym (get_or-set_same pairs (pair_for plan x) _ opening_pair within))
    (past_in plan e x (found_at pairs (pair_for plan x)) g (one_or_two (kind_told e.reply) (way_at plan e.box_no e.call)
    (kind_told x.reply) (way_at plan x.box_no x.call)) there)))
    (λ two. subst P (sym (get_or-set_other pairs (pair_for plan x) (pair_for plan e) _ opening_pair two.1)) past)
    (eqb_tells (pair_for plan e) (pair_for plan x))

-- what it means that an entry keeps another back
pub record Keeping (plan : PlanFields) (e x : Entry) : Type 0 where
  pub kinds : IsTrue (same_kind (kind_told e.reply) (kind_told x.reply))
  pub pairs : pair_for plan e ≡ pair_for plan x
  pub ways : way_at plan e.box_no e.call ≡ way_at plan x.box_no x.call
  pub kept : kept_back e.reply x.reply ≡ true

pub and_first : (a b : Bool) → (a && b) ≡ true → a ≡ true
and_first true b e = refl
and_first false b e = cc

pub and_second : (a b : Bool) → (a && b) ≡ true → b ≡ true
and_second true b e = e
and_second false b e = absurd cc

-- an entry keeps another back on one word alone
pub keeping : (plan : PlanFields) (e x : Entry) → keeps_back plan e x ≡ true → Keeping plan e x
keeping plan e x h =
    let word = and_first (on_one_word plan e x) (kept_back e.reply x.reply) h in
    let rest = and_second (same_kind (kind_told e.reply) (kind_told x.reply)) _ word in
    record {
      kinds = and_first _ _ word;
      pairs = eqb-true _ _ (and_first _ _ rest);
      ways = one_way _ _ (and_second (pair_for plan e == pair_for plan x) _ rest);
      kept = and_second (on_one_word plan e x) _ h;
    }

-- two kinds that are on one word are the same
pub one_kind : (k l : Kind) → IsTrue (same_kind k l) → (k ≡ l) × (k ≡ Tally → ⊥)
one_kind Tally l h = absurd cc
one_kind BellWord BellWord h = (refl, λ e. cc e)
one_kind BlockWord BlockWord h = (refl, λ e. cc e)
one_kind PlainLineWord PlainLineWord h = (refl, λ e. cc e)
one_kind BellWord l h = absurd cc
one_kind BlockWord l h = absurd cc
one_kind PlainLineWord l h = absurd cc

not_kept : (plan : PlanFields) (pairs : List PairState) (e x : Entry) → (kind_told e.reply ≡ PlainLineWord → ⊥)
    → Fits plan pairs x → Past plan pairs e → Keeping plan e x → ⊥
not_kept plan pairs e x line g past keep =
    let kinds = one_kind (kind_told e.reply) (kind_told x.reply) keep.kinds in
    let there : FitsWord (kind_told e.reply) (way_at plan e.box_no e.call) x.call.act x.reply
    (found_at pairs (pair_for plan e)) =
    subst (λ (k : Kind). FitsWord k (way_at plan e.box_no e.call) x.call.act x.reply (found_at pairs (pair_for plan e)))
    (sym kinds.0)
    (subst (λ (v : Way). FitsWord (kind_told x.reply) v x.call.act x.reply (found_at pairs (pair_for plan e)))
    (sym keep.ways)
    (subst (λ (p : ℕ). FitsPair plan x (found_at pairs p)) (sym keep.pairs) g)) in
    word_clear (kind_told e.reply) (way_at plan e.box_no e.call) x.call.act e.reply x.reply
    (found_at pairs (pair_for plan e)) refl kinds.1 line past there keep.kept

settled : (plan : PlanFields) (pairs : List PairState) (R : List Entry) (e : Entry) → IsPlan plan → AreOf plan pairs
    → FitFrom plan pairs R → Each (Stands plan) R → (kind_told e.reply ≡ PlainLineWord → ⊥) → Past plan pairs e
    → NoneKeeps plan e R
settled plan pairs [] e is are fit stand line past = tt
settled plan pairs (x ∷ R) e is are fit stand line past = (
  λ ne h. not_kept plan pairs e x line fit.0 past (keeping plan e x h),
  settled plan (made plan pairs x) R e is (are_after plan pairs x are) fit.1 stand.1 line
      (past_next plan pairs e x (is_there plan pairs x is are stand.0) fit.0 past),
)

-- on a bell or an instrument nothing later keeps back the first entry
pub first_settles : (plan : PlanFields) (pairs : List PairState) (R : List Entry) (e : Entry) → IsPlan plan
    → AreOf plan pairs → FitFrom plan pairs (e ∷ R) → Each (Stands plan) (e ∷ R)
    → (kind_told e.reply ≡ PlainLineWord → ⊥) → NoneKeeps plan e R
first_settles plan pairs R e is are fit stand line =
    settled plan (made plan pairs e) R e is (are_after plan pairs e are) fit.1 stand.1 line
    (past_begins plan pairs e (is_there plan pairs e is are stand.0) fit.0)
