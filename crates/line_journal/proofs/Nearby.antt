-- A placed entry opens no lower box but one that shares its word: the search goes on from there.
use Rattle.std.proofs.Common.{ℕ, zero, suc, ◌+◌, ◌==◌, ◌≡◌, ◌≢◌, ◌<◌, ◌≤◌, ◌⊎◌, inl, inr, ⊎_elim, List, [], ◌∷◌}
use Rattle.std.proofs.Common.{Some, Bool, true, false, slice_index_or, slice_set}
use Rattle.std.proofs.Common.{cond, IsTrue, drop, replicate, refl, sym, ap, subst, ◌∙◌, arith}
use Rattle.std.specs.Prelude.{if◌then◌else◌}
use Rattle.std.proofs.lemmas.Bool.Decides.{eqb_tells}
use Rattle.std.proofs.lemmas.List.{get_or-set_other, get_or-set_same}
use Rattle.block_words.specs.declared.Way.TheVariants.{Up, Down}
use Rattle.line_plan.specs.Plans.{PlanFields}
use Rattle.line_law.specs.declared.call.Entry.{Entry}
use Rattle.line_law.specs.declared.link.Link.{Link}
use Rattle.line_law.specs.declared.link.Link.TheVariants.{Out, In}
use Rattle.line_law.specs.declared.state.PairState.{PairState}
use Rattle.word_laws.specs.Footprint.{Kind, Tally, BellWord, BlockWord, PlainLineWord}
use Rattle.line_law.specs.Law.{link_of, box_plan_of}
use Rattle.line_law.specs.Links.{pair_no}
use Rattle.line_law.specs.States.{opening_pair}
use Rattle.word_laws.specs.TellsWord.{kind_told}
use Rattle.line_journal.specs.FitTests.{is_word}
use Rattle.line_journal.specs.Halves.{FitsPair, found_at, made, pair_for}
use Rattle.line_journal.specs.Keepers.{IsOpen, LetsPass, NoneOpenBelow, first_keeper, keeper_slot, kept_slot}
use Rattle.line_journal.specs.Keepers.{NoneAsleepOpen, opens_from, pair_woken, woken}
use Rattle.line_journal.specs.Lists.{AreOfBoxes}
use Rattle.line_journal.specs.Order.{keeps_back, list_at, placed, same_kind}
use Rattle.line_journal.proofs.Deciding.{tally_made}
use Rattle.line_journal.proofs.Looping.{own_box}
use Rattle.line_journal.proofs.Orders.{in_range}
use Rattle.line_journal.proofs.Settled.{keeping}

near_pair : (b : ℕ) (l : Link) → (pair_no b l ≤ b) × (b ≤ pair_no b l + 1)
near_pair b (Out Up) = (omega arith, omega arith)
near_pair b (Out Down) = (omega arith, omega arith)
near_pair b (In Up) = (omega arith, omega arith)
near_pair b (In Down) = (omega arith, omega arith)

-- the pair of an entry is that of its box, or the one before
pub pair_near : (plan : PlanFields) (e : Entry) → (pair_for plan e ≤ e.box_no) × (e.box_no ≤ pair_for plan e + 1)
pair_near plan e = near_pair e.box_no (link_of (box_plan_of plan e.box_no) e.call.act)

-- an entry of a box that isn't of a pair is on another one
other_pair : (c p q m : ℕ) → p ≤ m → m ≤ p + 1 → m ≡ c → c ≢ q → c ≢ q + 1 → p ≢ q
other_pair c p q m low high mine first second same =
    ⊎_elim
    (λ (at : m ≡ p). first (sym mine ∙ at ∙ same))
    (λ (at : m ≡ p + 1). second (sym mine ∙ at ∙ ap (λ (k : ℕ). k + 1) same))
    (ends m p low high) where
      ends : (m p : ℕ) → p ≤ m → m ≤ p + 1 → (m ≡ p) ⊎ (m ≡ p + 1)
      ends m p low high =
          ⊎_elim (λ mine. inl mine.1) (λ other. inr (omega (arith, low, high, other.1))) (eqb_tells m p)

-- where one entry doesn't keep another back, neither does the first keeper before it
let_pass : (plan : PlanFields) (x e : Entry) (rest : List Entry) → keeps_back plan x e ≡ false
    → LetsPass plan x (first_keeper plan x rest) → LetsPass plan x (first_keeper plan x (e ∷ rest))
let_pass plan x e rest free passes = by (keeper_slot plan e == kept_slot plan x) where
  by : (b : Bool) → LetsPass plan x (cond b (Some e) (first_keeper plan x rest))
  by true = free
  by false = passes

false_if : (b : Bool) → (b ≡ true → ⊥) → b ≡ false
false_if true h = absurd (h refl)
false_if false h = refl

-- on its tally no entry keeps another back
tally_free : (plan : PlanFields) (x e : Entry) → is_word (kind_told e.reply) ≡ false → keeps_back plan x e ≡ false
tally_free plan x e tally = false_if (keeps_back plan x e) (λ keeps.
    one_word (kind_told x.reply) (kind_told e.reply) (keeping plan x e keeps).kinds tally) where
      one_word : (k l : Kind) → IsTrue (same_kind k l) → is_word l ≡ false → ⊥
      one_word Tally l same tally = absurd cc
      one_word BellWord Tally same tally = absurd cc
      one_word BlockWord Tally same tally = absurd cc
      one_word PlainLineWord Tally same tally = absurd cc
      one_word k l same tally = absurd cc

-- nor does one on another pair
pub apart_free : (plan : PlanFields) (x e : Entry) → pair_for plan x ≢ pair_for plan e → keeps_back plan x e ≡ false
apart_free plan x e apart = false_if (keeps_back plan x e) (λ keeps. apart (keeping plan x e keeps).pairs)

-- a box opens by an entry of another one only where that changes a word of its own
was_open : (plan : PlanFields) (pairs : List PairState) (lists : List (List Entry)) (b c : ℕ) (e : Entry)
    (rest : List Entry) → AreOfBoxes plan lists → list_at lists b ≡ e ∷ rest → c ≢ b
    → ((x : Entry) → x.box_no ≡ c → keeps_back plan x e ≡ false)
    → ((x : Entry) → x.box_no ≡ c → found_at (made plan pairs e) (pair_for plan x) ≡ found_at pairs (pair_for plan x))
    → IsOpen plan (made plan pairs e) (placed lists b) c → IsOpen plan pairs lists c
was_open plan pairs lists b c e rest are first ne free same now =
    let x : Entry = now.entry in
    let next : list_at lists c ≡ x ∷ now.rest = sym (get_or-set_other lists b c _ [] ne) ∙ now.next in
    let own = (own_box plan lists c x now.rest are next).own in
    let here : list_at (placed lists b) b ≡ rest =
    get_or-set_same lists b _ [] (in_range lists b e rest first) ∙ ap (λ (l : List Entry). drop 1 l) first in
    record {
      entry = x;
      rest = now.rest;
      next = next;
      fits = subst (λ (r : PairState). FitsPair plan x r) (same x own) now.fits;
      passed = λ d near. ⊎_elim
          (λ mine. passes_at d mine.1 (subst (λ (l : List Entry). LetsPass plan x (first_keeper plan x l))
          (ap (λ (k : ℕ). list_at (placed lists b) k) mine.1 ∙ here) (now.passed d near)))
          (λ other. subst (λ (l : List Entry). LetsPass plan x (first_keeper plan x l))
          (get_or-set_other lists b d _ [] other.1) (now.passed d near))
          (eqb_tells d b);
    } where
      passes_at : (d : ℕ) → d ≡ b → LetsPass plan now.entry (first_keeper plan now.entry rest)
          → LetsPass plan now.entry (first_keeper plan now.entry (list_at lists d))
      passes_at d mine passes =
          subst (λ (l : List Entry). LetsPass plan now.entry (first_keeper plan now.entry l))
          (sym (ap (λ (k : ℕ). list_at lists k) mine ∙ first))
          (let_pass plan now.entry e rest
          (free now.entry (own_box plan lists c now.entry now.rest are
          (sym (get_or-set_other lists b c _ [] ne) ∙ now.next)).own) passes)

aside_word : (plan : PlanFields) (pairs : List PairState) (lists : List (List Entry)) (b c : ℕ) (e : Entry)
    (rest : List Entry) → AreOfBoxes plan lists → list_at lists b ≡ e ∷ rest → c ≢ b → c ≢ pair_for plan e
    → c ≢ pair_for plan e + 1 → IsOpen plan (made plan pairs e) (placed lists b) c → IsOpen plan pairs lists c
aside_word plan pairs lists b c e rest are first ne low high now =
    let apart : (x : Entry) → x.box_no ≡ c → pair_for plan x ≢ pair_for plan e =
    λ x at. other_pair c (pair_for plan x) (pair_for plan e) x.box_no (pair_near plan x).0 (pair_near plan x).1 at low
    high in
    was_open plan pairs lists b c e rest are first ne (λ x at. apart_free plan x e (apart x at))
    (λ x at. get_or-set_other pairs (pair_for plan e) (pair_for plan x) _ opening_pair (apart x at)) now

aside_tally : (plan : PlanFields) (pairs : List PairState) (lists : List (List Entry)) (b c : ℕ) (e : Entry)
    (rest : List Entry) → AreOfBoxes plan lists → list_at lists b ≡ e ∷ rest → c ≢ b
    → is_word (kind_told e.reply) ≡ false → IsOpen plan (made plan pairs e) (placed lists b) c
    → IsOpen plan pairs lists c
aside_tally plan pairs lists b c e rest are first ne tally now =
    was_open plan pairs lists b c e rest are first ne (λ x at. tally_free plan x e tally)
    (λ x at. ap (λ (ps : List PairState). found_at ps (pair_for plan x)) (tally_made plan pairs e tally)) now

under : (c n : ℕ) → c < n → c ≢ n
under c n less same = omega (arith, less, same)

under_next : (c n : ℕ) → c < n → c ≢ n + 1
under_next c n less same = omega (arith, less, same)

-- once an open box is placed no box below its pair is open
pub none_opens : (plan : PlanFields) (pairs : List PairState) (lists : List (List Entry)) (b : ℕ) (e : Entry)
    (rest : List Entry) → AreOfBoxes plan lists → list_at lists b ≡ e ∷ rest → e.box_no ≡ b
    → NoneOpenBelow plan pairs lists b → NoneOpenBelow plan (made plan pairs e) (placed lists b) (opens_from plan e)
none_opens plan pairs lists b e rest are first own below = by (is_word (kind_told e.reply)) refl where
  by : (w : Bool) → is_word (kind_told e.reply) ≡ w
      → NoneOpenBelow plan (made plan pairs e) (placed lists b) (if w then pair_for plan e else e.box_no)
  by true word c less now =
      let near = (pair_near plan e).0 in
      let at : c < b = omega (arith, less, near, own) in
      below c at (aside_word plan pairs lists b c e rest are first (under c b at) (under c (pair_for plan e) less)
      (under_next c (pair_for plan e) less) now)
  by false tally c less now =
      let at : c < b = omega (arith, less, own) in
      below c at (aside_tally plan pairs lists b c e rest are first (under c b at) tally now)

-- ---- boxes that are asleep

-- what is set awake isn't asleep
set_awake : (awake : List Bool) (n c : ℕ) → slice_index_or (slice_set awake n true) c true ≡ false
    → (c ≢ n) × (slice_index_or awake c true ≡ false)
set_awake awake n c asleep =
    ⊎_elim
    (λ mine. absurd (no_set awake n (ap (λ (k : ℕ). slice_index_or (slice_set awake n true) k true) (sym mine.1)
    ∙ asleep)))
    (λ other. (other.1, sym (get_or-set_other awake n c true true other.1) ∙ asleep))
    (eqb_tells c n) where
      no_set : (awake : List Bool) (n : ℕ) → slice_index_or (slice_set awake n true) n true ≡ false → ⊥
      no_set [] n e = by n e where
        by : (n : ℕ) → slice_index_or (slice_set [] n true) n true ≡ false → ⊥
        by zero e = absurd cc
        by (suc n) e = absurd cc
      no_set (x ∷ xs) zero e = absurd cc
      no_set (x ∷ xs) (suc n) e = no_set xs n e

-- once it is placed, with its pair woken, none that is asleep is open
pub none_wakes : (plan : PlanFields) (pairs : List PairState) (lists : List (List Entry)) (b : ℕ) (e : Entry)
    (rest : List Entry) (awake : List Bool) → AreOfBoxes plan lists → list_at lists b ≡ e ∷ rest
    → IsOpen plan pairs lists b → NoneAsleepOpen plan pairs lists awake
    → NoneAsleepOpen plan (made plan pairs e) (placed lists b) (woken plan e awake)
none_wakes plan pairs lists b e rest awake are first was asleep = by (is_word (kind_told e.reply)) refl where
  aside : (c : ℕ) → slice_index_or awake c true ≡ false → c ≢ b
  aside c down same = asleep c down (subst (λ (k : ℕ). IsOpen plan pairs lists k) (sym same) was)

  by : (w : Bool) → is_word (kind_told e.reply) ≡ w → NoneAsleepOpen plan (made plan pairs e) (placed lists b)
      (if w then pair_woken (pair_for plan e) awake else awake)
  by true word c down now =
      let second = set_awake (slice_set awake (pair_for plan e) true) (pair_for plan e + 1) c down in
      let low = set_awake awake (pair_for plan e) c second.1 in
      asleep c low.1 (aside_word plan pairs lists b c e rest are first (aside c low.1) low.0 second.0 now)
  by false tally c down now =
      asleep c down (aside_tally plan pairs lists b c e rest are first (aside c down) tally now)

-- where all boxes are awake none is asleep
pub all_awake : (n b : ℕ) → slice_index_or (replicate n true) b true ≡ false → ⊥
all_awake zero b e = absurd cc
all_awake (suc n) zero e = absurd cc
all_awake (suc n) (suc b) e = all_awake n b e

-- the same of what the program has
pub asleep_as : (plan : PlanFields) (pairs written : List PairState) (lists left : List (List Entry))
    (awake woke : List Bool) → written ≡ pairs → left ≡ lists → woke ≡ awake → NoneAsleepOpen plan pairs lists awake
    → NoneAsleepOpen plan written left woke
asleep_as plan pairs written lists left awake woke p l a none =
    subst (λ (ps : List PairState). NoneAsleepOpen plan ps left woke) (sym p)
    (subst (λ (ls : List (List Entry)). NoneAsleepOpen plan pairs ls woke) (sym l)
    (subst (λ (bs : List Bool). NoneAsleepOpen plan pairs lists bs) (sym a) none))
