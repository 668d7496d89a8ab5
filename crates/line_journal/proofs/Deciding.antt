-- The tests of the merge decide what they are to decide.
use Rattle.std.proofs.Common.{ℕ, ◌+◌, ◌-◌, ◌==◌, ◌&&◌, ◌≡◌, List, Option, Some, None}
use Rattle.std.proofs.Common.{Bool, true, false, IsTrue, lt-ltb, slice_set, refl, ap, subst, ◌∙◌, arith}
use Rattle.std.specs.Prelude.{nat_lt, not}
use Rattle.std.proofs.lemmas.Bool.{eq-eqb, eqb-true, ltb-true}
use Rattle.std.proofs.lemmas.List.{set-get_or}
use Rattle.block_words.specs.declared.Position.{Position}
use Rattle.block_words.specs.declared.Position.TheVariants.{Normal, LineClear, TrainOnLine}
use Rattle.block_words.specs.declared.Way.{Way}
use Rattle.line_plan.specs.Frames.{same_way}
use Rattle.line_plan.specs.Plans.{PlanFields}
use Rattle.line_law.specs.declared.call.Act.{Act}
use Rattle.line_law.specs.declared.call.Entry.{Entry}
use Rattle.line_law.specs.declared.call.Reply.{Reply}
use Rattle.line_law.specs.declared.call.Reply.TheVariants.{Rung, BellBusy, Heard, Silent, BellNotYet}
use Rattle.line_law.specs.declared.call.Reply.TheVariants.{Turned, Seen, BlockNotYet, PulledUnder, HeldByInstrument}
use Rattle.line_law.specs.declared.call.Reply.TheVariants.{Entered, SectionFull, Approaching, TrainNotYet, Berthed}
use Rattle.line_law.specs.declared.call.Reply.TheVariants.{PartBerthed, NoTrainAt, Cleared}
use Rattle.line_law.specs.declared.state.Bell.{Bell}
use Rattle.line_law.specs.declared.state.Block.{Block}
use Rattle.line_law.specs.declared.state.PairState.{PairState}
use Rattle.line_law.specs.declared.state.Passage.{Passage}
use Rattle.line_law.specs.Arrivals.{first_train}
use Rattle.word_laws.specs.Footprint.{Kind, Tally, BellWord, BlockWord, PlainLineWord, way_at}
use Rattle.line_law.specs.Instruments.{same_position}
use Rattle.line_law.specs.Law.{pair_of}
use Rattle.line_law.specs.Levers.{is_unspent_clear}
use Rattle.line_law.specs.States.{opening_pair}
use Rattle.word_laws.specs.TellsWord.{kind_told}
use Rattle.line_law.specs.Trains.{holds}
use Rattle.line_law.specs.Ways.{of_way}
use Rattle.line_journal.specs.Fits.{FitsBell, FitsBlock, FitsPlainLine, FitsWord, position_of, word_made}
use Rattle.line_journal.specs.Order.{keeps_back, kept_back, same_kind}
use Rattle.line_journal.specs.Halves.{Fits, found_at, made, pair_for}
use Rattle.line_journal.specs.FitTests.{fits_bell, fits_block, fits_here, fits_plain_line}
use Rattle.line_journal.specs.FitTests.{fits_word, is_next, is_word, same_mark, same_number}
use Rattle.line_journal.proofs.WordFits.{one_position}

-- ---- what keeps an entry back

-- a reply is kept back by one of its own kind alone
rung_kind : (k : ℕ) (q : Reply) → kept_back (Rung k) q ≡ true → same_kind (kind_told (Rung k)) (kind_told q) ≡ true
rung_kind k (Silent n) kept = refl
rung_kind k (BellNotYet shown n) kept = refl
rung_kind k q kept = cc

heard_kind : (k : ℕ) (code : ℕ) (q : Reply) → kept_back (Heard code k) q ≡ true
    → same_kind (kind_told (Heard code k)) (kind_told q) ≡ true
heard_kind k code (BellBusy held n) kept = refl
heard_kind k code q kept = cc

turned_kind : (v : ℕ) (q : Reply) → kept_back (Turned v) q ≡ true
    → same_kind (kind_told (Turned v)) (kind_told q) ≡ true
turned_kind v (PulledUnder n) kept = refl
turned_kind v (HeldByInstrument way shown spent n) kept = refl
turned_kind v (Seen n) kept = refl
turned_kind v (BlockNotYet shown n) kept = refl
turned_kind v q kept = cc

entered_kind : (k : ℕ) (train : ℕ) (q : Reply) → kept_back (Entered train k) q ≡ true
    → same_kind (kind_told (Entered train k)) (kind_told q) ≡ true
entered_kind k train (NoTrainAt j) kept = refl
entered_kind k train (TrainNotYet j) kept = refl
entered_kind k train q kept = cc

berthed_kind : (j : ℕ) (train : ℕ) (q : Reply) → kept_back (Berthed train j) q ≡ true
    → same_kind (kind_told (Berthed train j)) (kind_told q) ≡ true
berthed_kind j train (SectionFull k) kept = refl
berthed_kind j train q kept = cc

cleared_kind : (j : ℕ) (train : ℕ) (q : Reply) → kept_back (Cleared train j) q ≡ true
    → same_kind (kind_told (Cleared train j)) (kind_told q) ≡ true
cleared_kind j train (SectionFull k) kept = refl
cleared_kind j train q kept = cc

kept_kind : (r q : Reply) → kept_back r q ≡ true → same_kind (kind_told r) (kind_told q) ≡ true
kept_kind (Rung k) q kept = rung_kind k q kept
kept_kind (Heard code k) q kept = heard_kind k code q kept
kept_kind (Turned v) q kept = turned_kind v q kept
kept_kind (Entered train k) q kept = entered_kind k train q kept
kept_kind (Berthed train j) q kept = berthed_kind j train q kept
kept_kind (Cleared train j) q kept = cleared_kind j train q kept
kept_kind r q kept = cc

and_turned : (a b : Bool) → a && b ≡ b && a
and_turned true true = refl
and_turned true false = refl
and_turned false true = refl
and_turned false false = refl

short : (k p v t : Bool) → (t ≡ true → k ≡ true) → (k && (p && v)) && t ≡ t && (p && v)
short true p v t h = and_turned (p && v) t
short false p v false h = refl
short false p v true h = let no : false ≡ true = h refl in absurd (cc no)

-- where the table names the replies, they are of one kind
pub keeps_short : (plan : PlanFields) (e x : Entry) → keeps_back plan e x
    ≡ kept_back e.reply x.reply && ((pair_of plan e.box_no e.call == pair_of plan x.box_no x.call)
    && same_way (way_at plan e.box_no e.call) (way_at plan x.box_no x.call))
keeps_short plan e x =
    short (same_kind (kind_told e.reply) (kind_told x.reply))
    (pair_of plan e.box_no e.call == pair_of plan x.box_no x.call)
    (same_way (way_at plan e.box_no e.call) (way_at plan x.box_no x.call)) (kept_back e.reply x.reply)
    (kept_kind e.reply x.reply)

-- ---- what fits

first : (a b : Bool) → IsTrue (a && b) → IsTrue a
first true b h = refl
first false b h = cc

second : (a b : Bool) → IsTrue (a && b) → IsTrue b
second true b h = h
second false b h = absurd cc

pair_up : (a b : Bool) → IsTrue a → IsTrue b → IsTrue (a && b)
pair_up true b p q = q
pair_up false b p q = absurd cc

one_number : (m n : Option ℕ) → IsTrue (same_number m n) → m ≡ n
one_number None None h = refl
one_number None (Some n) h = absurd cc
one_number (Some m) None h = absurd cc
one_number (Some m) (Some n) h = ap (λ (k : ℕ). Some k) (eqb-true m n h)

numbers_one : (n : Option ℕ) → IsTrue (same_number n n)
numbers_one None = refl
numbers_one (Some n) = eq-eqb n n refl

same_numbers : (m n : Option ℕ) → m ≡ n → IsTrue (same_number m n)
same_numbers m n e = subst (λ (o : Option ℕ). IsTrue (same_number m o)) e (numbers_one m)

next_one : (n k : ℕ) → IsTrue (is_next n k) → n + 1 ≡ k
next_one n k h =
    let a = ltb-true n k (first (nat_lt n k) (k - n == 1) h) in
    let b = eqb-true (k - n) 1 (second (nat_lt n k) (k - n == 1) h) in omega (arith, a, b)

one_next : (n k : ℕ) → n + 1 ≡ k → IsTrue (is_next n k)
one_next n k e = pair_up (nat_lt n k) (k - n == 1) (lt-ltb n k (omega (arith, e))) (eq-eqb (k - n) 1 (omega (arith, e)))

position_same : (p q : Position) → p ≡ q → IsTrue (same_position p q)
position_same p q e = subst (λ (x : Position). IsTrue (same_position p x)) e (self p) where
  self : (p : Position) → IsTrue (same_position p p)
  self Normal = refl
  self LineClear = refl
  self TrainOnLine = refl

one_mark : (a b : Bool) → IsTrue (same_mark a b) → a ≡ b
one_mark true true h = refl
one_mark true false h = absurd cc
one_mark false true h = absurd cc
one_mark false false h = refl

mark_one : (a b : Bool) → a ≡ b → IsTrue (same_mark a b)
mark_one true true e = refl
mark_one true false e = cc
mark_one false true e = cc
mark_one false false e = refl

not_true : (a : Bool) → IsTrue (not a) → a ≡ false
not_true true h = cc
not_true false h = refl

true_not : (a : Bool) → a ≡ false → IsTrue (not a)
true_not true h = cc
true_not false h = refl

bell_fits : (r : Reply) (w : Bell) → IsTrue (fits_bell r w) → FitsBell r w
bell_fits (Rung k) w h = (
  next_one w.count k (first (is_next w.count k) (same_number w.unheard None) h),
  one_number w.unheard None (second (is_next w.count k) (same_number w.unheard None) h),
)
bell_fits (BellBusy code k) w h = (
  eqb-true w.count k (first (w.count == k) (same_number w.unheard (Some code)) h),
  one_number w.unheard (Some code) (second (w.count == k) (same_number w.unheard (Some code)) h),
)
bell_fits (Heard code k) w h = (
  eqb-true w.count k (first (w.count == k) (same_number w.unheard (Some code)) h),
  one_number w.unheard (Some code) (second (w.count == k) (same_number w.unheard (Some code)) h),
)
bell_fits (Silent k) w h = (
  eqb-true w.count k (first (w.count == k) (same_number w.unheard None) h),
  one_number w.unheard None (second (w.count == k) (same_number w.unheard None) h),
)
bell_fits (BellNotYet shown k) w h = (
  eqb-true w.count k (first (w.count == k) (same_number w.unheard shown) h),
  one_number w.unheard shown (second (w.count == k) (same_number w.unheard shown) h),
)
bell_fits r w h = absurd cc

fits_bell_so : (r : Reply) (w : Bell) → FitsBell r w → IsTrue (fits_bell r w)
fits_bell_so (Rung k) w f =
    pair_up (is_next w.count k) (same_number w.unheard None) (one_next w.count k f.0) (same_numbers w.unheard None f.1)
fits_bell_so (BellBusy code k) w f =
    pair_up (w.count == k) (same_number w.unheard (Some code)) (eq-eqb w.count k f.0)
    (same_numbers w.unheard (Some code) f.1)
fits_bell_so (Heard code k) w f =
    pair_up (w.count == k) (same_number w.unheard (Some code)) (eq-eqb w.count k f.0)
    (same_numbers w.unheard (Some code) f.1)
fits_bell_so (Silent k) w f =
    pair_up (w.count == k) (same_number w.unheard None) (eq-eqb w.count k f.0) (same_numbers w.unheard None f.1)
fits_bell_so (BellNotYet shown k) w f =
    pair_up (w.count == k) (same_number w.unheard shown) (eq-eqb w.count k f.0) (same_numbers w.unheard shown f.1)
fits_bell_so r w f = absurd f

block_fits : (a : Act) (r : Reply) (w : Block) → IsTrue (fits_block a r w) → FitsBlock a r w
block_fits a (Turned v) w h = next_one w.turns v h
block_fits a (Seen v) w h = (
  eqb-true w.turns v (first (w.turns == v) (same_position w.position (position_of a)) h),
  one_position w.position (position_of a) (second (w.turns == v) (same_position w.position (position_of a)) h),
)
block_fits a (BlockNotYet shown v) w h = (
  eqb-true w.turns v (first (w.turns == v) (same_position w.position shown) h),
  one_position w.position shown (second (w.turns == v) (same_position w.position shown) h),
)
block_fits a (PulledUnder v) w h =
    (eqb-true w.turns v (first (w.turns == v) (is_unspent_clear w) h), second (w.turns == v) (is_unspent_clear w) h)
block_fits a (HeldByInstrument way shown spent v) w h =
    let rest = second (w.turns == v) (same_position w.position shown && same_mark w.spent spent) h in (
      eqb-true w.turns v (first (w.turns == v) (same_position w.position shown && same_mark w.spent spent) h),
      one_position w.position shown (first (same_position w.position shown) (same_mark w.spent spent) rest),
      one_mark w.spent spent (second (same_position w.position shown) (same_mark w.spent spent) rest),
    )
block_fits a r w h = absurd cc

fits_block_so : (a : Act) (r : Reply) (w : Block) → FitsBlock a r w → IsTrue (fits_block a r w)
fits_block_so a (Turned v) w f = one_next w.turns v f
fits_block_so a (Seen v) w f =
    pair_up (w.turns == v) (same_position w.position (position_of a)) (eq-eqb w.turns v f.0)
    (position_same w.position (position_of a) f.1)
fits_block_so a (BlockNotYet shown v) w f =
    pair_up (w.turns == v) (same_position w.position shown) (eq-eqb w.turns v f.0) (position_same w.position shown f.1)
fits_block_so a (PulledUnder v) w f = pair_up (w.turns == v) (is_unspent_clear w) (eq-eqb w.turns v f.0) f.1
fits_block_so a (HeldByInstrument way shown spent v) w f =
    pair_up (w.turns == v) (same_position w.position shown && same_mark w.spent spent) (eq-eqb w.turns v f.0)
    (pair_up (same_position w.position shown) (same_mark w.spent spent) (position_same w.position shown f.1)
    (mark_one w.spent spent f.2))
fits_block_so a r w f = absurd f

line_fits : (r : Reply) (w : List Passage) → IsTrue (fits_plain_line r w) → FitsPlainLine r w
line_fits (Entered train k) w h = not_true (holds w k) h
line_fits (SectionFull k) w h = h
line_fits (Approaching train j) w h = one_number (first_train j w) (Some train) h
line_fits (TrainNotYet j) w h = one_number (first_train j w) None h
line_fits (Berthed train j) w h = one_number (first_train j w) (Some train) h
line_fits (PartBerthed train j) w h = one_number (first_train j w) (Some train) h
line_fits (NoTrainAt j) w h = one_number (first_train j w) None h
line_fits (Cleared train j) w h = one_number (first_train j w) (Some train) h
line_fits r w h = absurd cc

fits_line_so : (r : Reply) (w : List Passage) → FitsPlainLine r w → IsTrue (fits_plain_line r w)
fits_line_so (Entered train k) w f = true_not (holds w k) f
fits_line_so (SectionFull k) w f = f
fits_line_so (Approaching train j) w f = same_numbers (first_train j w) (Some train) f
fits_line_so (TrainNotYet j) w f = same_numbers (first_train j w) None f
fits_line_so (Berthed train j) w f = same_numbers (first_train j w) (Some train) f
fits_line_so (PartBerthed train j) w f = same_numbers (first_train j w) (Some train) f
fits_line_so (NoTrainAt j) w f = same_numbers (first_train j w) None f
fits_line_so (Cleared train j) w f = same_numbers (first_train j w) (Some train) f
fits_line_so r w f = absurd f

word_fits : (k : Kind) (v : Way) (a : Act) (r : Reply) (p : PairState) → IsTrue (fits_word k v a r p)
    → FitsWord k v a r p
word_fits Tally v a r p h = tt
word_fits BellWord v a r p h = bell_fits r (of_way p.bells v) h
word_fits BlockWord v a r p h = block_fits a r (of_way p.blocks v) h
word_fits PlainLineWord v a r p h = line_fits r (of_way p.lines v) h

fits_word_so : (k : Kind) (v : Way) (a : Act) (r : Reply) (p : PairState) → FitsWord k v a r p
    → IsTrue (fits_word k v a r p)
fits_word_so Tally v a r p f = refl
fits_word_so BellWord v a r p f = fits_bell_so r (of_way p.bells v) f
fits_word_so BlockWord v a r p f = fits_block_so a r (of_way p.blocks v) f
fits_word_so PlainLineWord v a r p f = fits_line_so r (of_way p.lines v) f

-- what tests as fitting fits
pub fits_if : (plan : PlanFields) (pairs : List PairState) (e : Entry) → IsTrue (fits_here plan pairs e)
    → Fits plan pairs e
fits_if plan pairs e h =
    word_fits (kind_told e.reply) (way_at plan e.box_no e.call) e.call.act e.reply (found_at pairs (pair_for plan e)) h

-- and what fits tests so
pub if_fits : (plan : PlanFields) (pairs : List PairState) (e : Entry) → Fits plan pairs e
    → IsTrue (fits_here plan pairs e)
if_fits plan pairs e f =
    fits_word_so (kind_told e.reply) (way_at plan e.box_no e.call) e.call.act e.reply (found_at pairs (pair_for plan e))
    f

-- ---- what is decided on its box's own tally

-- it always fits
pub tally_fits : (plan : PlanFields) (pairs : List PairState) (e : Entry) → is_word (kind_told e.reply) ≡ false
    → fits_here plan pairs e ≡ true
tally_fits plan pairs e tally = by (kind_told e.reply) (found_at pairs (pair_for plan e)) tally where
  by : (k : Kind) (pair : PairState) → is_word k ≡ false
      → fits_word k (way_at plan e.box_no e.call) e.call.act e.reply pair ≡ true
  by Tally pair tally = refl
  by k pair tally = absurd cc

-- and leaves all pairs as they are
pub tally_made : (plan : PlanFields) (pairs : List PairState) (e : Entry) → is_word (kind_told e.reply) ≡ false
    → made plan pairs e ≡ pairs
tally_made plan pairs e tally =
    ap (λ (pair : PairState). slice_set pairs (pair_for plan e) pair)
    (same (kind_told e.reply) (found_at pairs (pair_for plan e)) tally)
    ∙ set-get_or pairs (pair_for plan e) opening_pair where
      same : (k : Kind) (pair : PairState) → is_word k ≡ false
          → word_made k (way_at plan e.box_no e.call) e.call.act e.reply pair ≡ pair
      same Tally pair tally = refl
      same k pair tally = absurd cc
