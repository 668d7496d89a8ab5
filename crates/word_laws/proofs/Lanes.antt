-- The lanes of a plain line whose trains' numbers follow one another.
use Rattle.std.proofs.Common.{◌≡◌, ◌≢◌, ℕ, ◌+◌, ◌-◌, ◌*◌, ◌%◌, ◌^◌, ◌<◌, ◌≤◌, List, [], ◌∷◌, ◌++◌, length, Bool, true}
use Rattle.std.proofs.Common.{false, ◌||◌, ◌==◌, if◌then◌else◌, bit_and, bit_or, ◌⊎◌, inl, inr, ⊎_elim, refl, sym, ap}
use Rattle.std.proofs.Common.{◌∙◌, subst, arith}
use Rattle.std.specs.Prelude.{All}
use Rattle.std.specs.List.{list_any}
use Rattle.std.proofs.lemmas.Bool.Decides.{eqb_tells}
use Rattle.std.proofs.lemmas.List.Elements.{All-head, All-tail}
use Rattle.block_words.specs.Sections.{lane, lane_bits, lane_mask, lane_unit}
use Rattle.block_words.proofs.Lanes.{bit_and-lane_mask, bit_or-lane_bits, lane-lanes_word, lanes_word-filled}
use Rattle.line_law.specs.declared.state.Passage.{Passage}
use Rattle.line_law.specs.Lines.{AreNumbered}
use Rattle.line_law.specs.Trains.{holds}
use Rattle.word_laws.specs.WordNumbers.{IsTrainNo, lane_of, plain_line_number}
use Rattle.line_law.proofs.Numbers.{length_numbered}

-- the train of a passage fits a lane
abbrev IsTrain : Passage → Type 0
IsTrain passage = IsTrainNo passage.train

-- a choice by a test that holds is the first
pub if_true : {A : Type 0} (b : Bool) (x y : A) → b ≡ true → (if b then x else y) ≡ x
if_true true x y h = refl
if_true false x y h = cc

-- a choice by a test that doesn't hold is the second
pub if_false : {A : Type 0} (b : Bool) (x y : A) → b ≡ false → (if b then x else y) ≡ y
if_false true x y h = cc
if_false false x y h = refl

-- different numbers are told apart
pub eqb_no : (a b : ℕ) → a ≢ b → (a == b) ≡ false
eqb_no a b ne =
    ⊎_elim (λ (t : ((a == b) ≡ true) × (a ≡ b)). absurd (ne t.1)) (λ (t : ((a == b) ≡ false) × (a ≢ b)). t.0)
    (eqb_tells a b)

-- equal numbers are found equal
pub eqb_yes : (a b : ℕ) → a ≡ b → (a == b) ≡ true
eqb_yes a b e =
    ⊎_elim (λ (t : ((a == b) ≡ true) × (a ≡ b)). t.0) (λ (t : ((a == b) ≡ false) × (a ≢ b)). absurd (t.1 e))
    (eqb_tells a b)

-- no train has a number in this lane
abbrev Apart : ℕ → ℕ → ℕ → Type 0
Apart taken sent i = (n : ℕ) → taken < n → n ≤ sent → n % 4 ≢ i

later_apart : (taken sent i : ℕ) → Apart taken sent i → Apart (taken + 1) sent i
later_apart taken sent i h n above below = h n (omega arith) below

lane_none : (taken sent i : ℕ) (ts : List Passage) → AreNumbered taken sent ts → Apart taken sent i → lane_of ts i ≡ 0
lane_none taken sent i [] h apart = refl
lane_none taken sent i (t ∷ ts) h apart =
    let l = length_numbered (taken + 1) sent ts h.1 in
    if_false (t.number % 4 == i) t.train (lane_of ts i)
    (eqb_no (t.number % 4) i (apart t.number (omega arith) (omega arith)))
    ∙ lane_none (taken + 1) sent i ts h.1 (later_apart taken sent i apart)

lane_last : (taken sent i : ℕ) (ts : List Passage) (p : Passage) → AreNumbered taken sent ts → Apart taken sent i
    → lane_of (ts ++ p ∷ []) i ≡ lane_of (p ∷ []) i
lane_last taken sent i [] p h apart = refl
lane_last taken sent i (t ∷ ts) p h apart =
    let l = length_numbered (taken + 1) sent ts h.1 in
    if_false (t.number % 4 == i) t.train (lane_of (ts ++ p ∷ []) i)
    (eqb_no (t.number % 4) i (apart t.number (omega arith) (omega arith)))
    ∙ lane_last (taken + 1) sent i ts p h.1 (later_apart taken sent i apart)

lane_else : (i : ℕ) (ts : List Passage) (p : Passage) → i ≢ p.number % 4 → lane_of (ts ++ p ∷ []) i ≡ lane_of ts i
lane_else i [] p ne = if_false (p.number % 4 == i) p.train 0 (eqb_no (p.number % 4) i (λ e. ne (sym e)))
lane_else i (t ∷ ts) p ne = ap (λ (r : ℕ). if t.number % 4 == i then t.train else r) (lane_else i ts p ne)

pick_small : (b : Bool) (x y : ℕ) → x < 65536 → y < 65536 → (if b then x else y) < 65536
pick_small true x y h k = h
pick_small false x y h k = k

pub lane_small : (i : ℕ) (ts : List Passage) → All IsTrain ts → lane_of ts i < 65536
lane_small i [] all = omega arith
lane_small i (t ∷ ts) all =
    pick_small (t.number % 4 == i) t.train (lane_of ts i) (All-head IsTrain t ts all).1
    (lane_small i ts (All-tail IsTrain t ts all))

pub line_fits : (ts : List Passage) → All IsTrain ts → plain_line_number ts < 2 ^ 64
line_fits ts all = let a = lane_small 0 ts all in let b = lane_small 1 ts all in let c = lane_small 2 ts all in let d =
    lane_small 3 ts all in omega arith

-- a lane of a plain line's word has the train that stands there
pub lane-plain_line_number : (ts : List Passage) (i : ℕ) → All IsTrain ts
    → lane (plain_line_number ts) i ≡ lane_of ts (i % 4)
lane-plain_line_number ts i all = lane-lanes_word (lane_of ts) i (λ j. lane_small j ts all)

-- the next train's lane is taken exactly where four trains stand on the line

held_none : (taken sent m : ℕ) (ts : List Passage) → AreNumbered taken sent ts
    → ((n : ℕ) → taken < n → n ≤ sent → n ≢ m) → list_any (λ (p : Passage). p.number == m) ts ≡ false
held_none taken sent m [] h apart = refl
held_none taken sent m (t ∷ ts) h apart =
    let l = length_numbered (taken + 1) sent ts h.1 in
    both (t.number == m) (list_any (λ (p : Passage). p.number == m) ts)
    (eqb_no t.number m (apart t.number (omega arith) (omega arith)))
    (held_none (taken + 1) sent m ts h.1 (λ n above below. apart n (omega arith) below))
  where
    both : (a b : Bool) → a ≡ false → b ≡ false → (a || b) ≡ false
    both a b x y = rw (x, y) refl

or_yes : (a b : Bool) → a ≡ true → (a || b) ≡ true
or_yes a b h = rw h refl

-- the plain line has room for the next train, and its lane is empty
pub record Next (sent : ℕ) (ts : List Passage) : Type 0 where
  pub few : length ts < 4
  pub free : holds ts (sent + 1) ≡ false
  pub empty : lane_of ts ((sent + 1) % 4) ≡ 0

-- the plain line has no room for the next train, and its lane is taken
pub record Full (sent : ℕ) (ts : List Passage) : Type 0 where
  pub taken : holds ts (sent + 1) ≡ true
  pub there : 0 < lane_of ts ((sent + 1) % 4)

-- the lane of the next train is empty exactly where the plain line has room for it
pub next_lane : (taken sent : ℕ) (ts : List Passage) → AreNumbered taken sent ts → length ts ≤ 4 → All IsTrain ts
    → Next sent ts ⊎ Full sent ts
next_lane taken sent [] h four all = inl (record { few = omega arith; free = refl; empty = refl })
next_lane taken sent (t ∷ ts) h four all =
    ⊎_elim (λ (few : length ts < 3). inl (next few)) (λ (full : 3 ≤ length ts). inr (held full))
    (either_way (length ts))
  where
    either_way : (n : ℕ) → (n < 3) ⊎ (3 ≤ n)
    either_way n = grind (arith)

    next : length ts < 3 → Next sent (t ∷ ts)
    next few = let l = length_numbered (taken + 1) sent ts h.1 in record {
      few = omega arith;
      free = held_none taken sent (sent + 1 - 4) (t ∷ ts) h (λ n above below. λ e. absurd (omega arith));
      empty = lane_none taken sent ((sent + 1) % 4) (t ∷ ts) h (λ n above below. λ e. absurd (omega arith));
    }

    held : 3 ≤ length ts → Full sent (t ∷ ts)
    held full = let l = length_numbered (taken + 1) sent ts h.1 in let n = h.0 in let p =
        All-head IsTrain t ts all in record {
          taken = or_yes (t.number == sent + 1 - 4) (list_any (λ (p : Passage). p.number == sent + 1 - 4) ts)
              (eqb_yes t.number (sent + 1 - 4) (omega arith));
          there = subst (λ (x : ℕ). 0 < x)
              (sym (if_true (t.number % 4 == (sent + 1) % 4) t.train (lane_of ts ((sent + 1) % 4))
              (eqb_yes (t.number % 4) ((sent + 1) % 4) (omega arith)))) p.0;
        }

-- a train enters
pub line_entered : (taken sent train : ℕ) (ts : List Passage) → AreNumbered taken sent ts → length ts < 4
    → All IsTrain ts → train < 65536
    → bit_or (plain_line_number ts) (lane_bits (sent + 1) train)
    ≡ plain_line_number (ts ++ record { number = sent + 1; train = train } ∷ [])
line_entered taken sent train ts h few all small =
    bit_or-lane_bits (plain_line_number ts) (sent + 1) train small (lane-plain_line_number ts (sent + 1) all ∙ empty)
    ∙ sym (lanes_word-filled (lane_of ts) (lane_of (ts ++ p ∷ [])) (sent + 1) train empty
    (lane_last taken sent ((sent + 1) % 4) ts p h apart
    ∙ if_true ((sent + 1) % 4 == (sent + 1) % 4) train 0 (eqb_yes ((sent + 1) % 4) ((sent + 1) % 4) refl))
    (λ i ne. lane_else i ts p ne))
  where
    p : Passage
    p = record { number = sent + 1; train = train }

    apart : Apart taken sent ((sent + 1) % 4)
    apart n above below = let l = length_numbered taken sent ts h in λ e. absurd (omega arith)

    empty : lane_of ts ((sent + 1) % 4) ≡ 0
    empty = lane_none taken sent ((sent + 1) % 4) ts h apart

-- the first train is taken out
pub record First (taken : ℕ) (t : Passage) (ts : List Passage) : Type 0 where
  pub lane_is : lane (plain_line_number (t ∷ ts)) (taken + 1) ≡ t.train
  pub left : bit_and (plain_line_number (t ∷ ts)) (lane_mask (taken + 1)) ≡ plain_line_number ts

-- the first train of a plain line leaves its lane, and the others keep theirs
pub line_left : (taken sent : ℕ) (t : Passage) (ts : List Passage) → AreNumbered taken sent (t ∷ ts)
    → length (t ∷ ts) ≤ 4 → All IsTrain (t ∷ ts) → First taken t ts
line_left taken sent t ts h four all = record { lane_is = is; left = out }
  where
    k : ℕ
    k = taken + 1

    mine : lane_of (t ∷ ts) ((taken + 1) % 4) ≡ t.train
    mine = let n =
        h.0 in if_true (t.number % 4 == (taken + 1) % 4) t.train (lane_of ts ((taken + 1) % 4))
        (eqb_yes (t.number % 4) ((taken + 1) % 4) (omega arith))

    is : lane (plain_line_number (t ∷ ts)) (taken + 1) ≡ t.train
    is = lane-plain_line_number (t ∷ ts) (taken + 1) all ∙ mine

    apart : Apart (taken + 1) sent ((taken + 1) % 4)
    apart n above below = let l = length_numbered (taken + 1) sent ts h.1 in λ e. absurd (omega arith)

    sum : plain_line_number (t ∷ ts) ≡ plain_line_number ts + lane_bits (taken + 1) t.train
    sum = lanes_word-filled (lane_of ts) (lane_of (t ∷ ts)) (taken + 1) t.train
        (lane_none (taken + 1) sent ((taken + 1) % 4) ts h.1 apart) mine
        (λ i ne. if_false (t.number % 4 == i) t.train (lane_of ts i)
        (eqb_no (t.number % 4) i (λ e. let n = h.0 in ne (omega arith))))

    out : bit_and (plain_line_number (t ∷ ts)) (lane_mask (taken + 1)) ≡ plain_line_number ts
    out = rest (bit_and (plain_line_number (t ∷ ts)) (lane_mask (taken + 1)))
        (lane (plain_line_number (t ∷ ts)) (taken + 1)) (lane_unit (taken + 1)) t.train (plain_line_number (t ∷ ts))
        (plain_line_number ts) (bit_and-lane_mask (plain_line_number (t ∷ ts)) (taken + 1) (line_fits (t ∷ ts) all)) is
        sum
      where
        rest : (r l u x w v : ℕ) → r + l * u ≡ w → l ≡ x → w ≡ v + x * u → r ≡ v
        rest r l u x w v a b c = let d : r + x * u ≡ w = subst (λ (m : ℕ). r + m * u ≡ w) b a in omega arith
