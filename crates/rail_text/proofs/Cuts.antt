-- A text cut into its words chunk by chunk.
use Rattle.std.proofs.Common.{◌≡◌, ◌≢◌, ◌↔◌, ℕ, zero, suc, ◌+◌, ◌-◌, ◌<◌, ◌≤◌, Bool, true, false, ◌||◌, List, length}
use Rattle.std.proofs.Common.{get_or, slice_get, slice_set, Some, eqb, leb, sym, ap, ◌∙◌, arith, inl, inr}
use Rattle.std.proofs.Common.{◌⊎◌, ◌%◌, subst, min}
use Rattle.std.specs.Int.{bit_at}
use Rattle.std.proofs.lemmas.Bool.Decides.{eqb_tells, leb_tells}
use Rattle.std.proofs.lemmas.List.{get_or-set_other, get_or-set_same, get_or_past, length-set}
use Rattle.std.proofs.lemmas.Option.{slice_get-get_or}
use Rattle.rail_text.specs.Cutting.{IsCutUpTo}
use Rattle.rail_text.specs.LineWords.{AreEnds, word_end}
use Rattle.rail_text.proofs.Gaps.{gap_any}
use Rattle.rail_text.proofs.WordEnds.{cut_other, cut_space, cut_start, ends_here, ends_last, gap_other, gap_space}

-- nothing is cut yet
pub cut_none : (text ends : List ℕ) (spaces start : ℕ) (empty : Bool) → length ends ≡ 16 → spaces ≡ 0 → start ≡ 0
    → empty ≡ false → IsCutUpTo text ends 0 spaces start empty
cut_none text ends spaces start empty room s b e =
    subst (λ (n : ℕ). IsCutUpTo text ends 0 n start empty) (sym s)
    (subst (λ (n : ℕ). IsCutUpTo text ends 0 0 n empty) (sym b)
    (subst (λ (m : Bool). IsCutUpTo text ends 0 0 0 m) (sym e) none)) where
      none : IsCutUpTo text ends 0 0 0 false
      none = record {
        cut = cut_start text;
        room = room;
        each = λ short i lt few. absurd (omega (arith, lt));
        low = omega arith;
        gaps = gap_any text;
      }

-- behind a byte that is no space
pub other_more : (text ends : List ℕ) (at spaces start : ℕ) (empty : Bool) → at < length text
    → (get_or text at 0 ≡ 32 → ⊥) → IsCutUpTo text ends at spaces start empty
    → IsCutUpTo text ends (at + 1) spaces start empty
other_more text ends at spaces start empty lt other h = record {
  cut = cut_other text at spaces lt other h.cut;
  room = h.room;
  each = h.each;
  low = omega (arith, h.low);
  gaps = gap_other text at start empty lt other h.low ∙ h.gaps;
}

-- behind bytes that are no spaces
pub over : (text ends : List ℕ) (n at spaces start : ℕ) (empty : Bool) → at + n ≤ length text
    → ((k : ℕ) → at ≤ k → k < at + n → get_or text k 0 ≡ 32 → ⊥) → IsCutUpTo text ends at spaces start empty
    → IsCutUpTo text ends (at + n) spaces start empty
over text ends zero at spaces start empty within others h =
    let e : at ≡ at + 0 = omega arith in
    subst (λ (k : ℕ). IsCutUpTo text ends k spaces start empty) e h
over text ends (suc n) at spaces start empty within others h =
    let e : at + 1 + n ≡ at + suc n = omega arith in
    subst (λ (k : ℕ). IsCutUpTo text ends k spaces start empty) e
    (over text ends n (at + 1) spaces start empty (omega (arith, within))
    (λ k low high. others k (omega (arith, low)) (omega (arith, high)))
    (other_more text ends at spaces start empty (omega (arith, within)) (others at (omega arith) (omega arith)) h))

-- one more end is kept
kept_more : (text ends : List ℕ) (spaces at : ℕ) → length ends ≡ 16 → spaces < 16 → at ≤ length text
    → word_end text spaces ≡ at
    → (length text < 256 → (i : ℕ) → i < spaces → i < 16 → slice_get ends i ≡ Some (word_end text i))
    → length text < 256 → (i : ℕ) → i < spaces + 1 → i < 16
    → slice_get (slice_set ends spaces (at % 256)) i ≡ Some (word_end text i)
kept_more text ends spaces at long room lt is h short i less few = go (eqb_tells i spaces) where
  there : slice_get (slice_set ends spaces (at % 256)) i ≡ Some (get_or (slice_set ends spaces (at % 256)) i 0)
  there = slice_get-get_or (slice_set ends spaces (at % 256)) i 0
      (omega (arith, length-set ends spaces (at % 256), long, few))

  small : at % 256 ≡ at
  small = omega (arith, short, lt)

  go : ((eqb i spaces ≡ true) × (i ≡ spaces)) ⊎ ((eqb i spaces ≡ false) × (i ≢ spaces))
      → slice_get (slice_set ends spaces (at % 256)) i ≡ Some (word_end text i)
  go (inl p) =
      there
      ∙ ap (λ (n : ℕ). Some n) (ap (λ (k : ℕ). get_or (slice_set ends spaces (at % 256)) k 0) p.1
      ∙ get_or-set_same ends spaces (at % 256) 0 (omega (arith, long, room))
      ∙ small ∙ sym is ∙ ap (word_end text) (sym p.1))
  go (inr p) =
      there
      ∙ ap (λ (n : ℕ). Some n) (get_or-set_other ends spaces i (at % 256) 0 p.1)
      ∙ sym (slice_get-get_or ends i 0 (omega (arith, long, few)))
      ∙ h short i (omega (arith, less, p.1)) few

-- behind a space whose place is kept, and one whose place isn't
pub space_kept : (text ends : List ℕ) (at spaces start : ℕ) (empty : Bool) → at < length text
    → get_or text at 0 ≡ 32 → spaces < 16 → IsCutUpTo text ends at spaces start empty
    → IsCutUpTo text (slice_set ends spaces (at % 256)) (at + 1) (spaces + 1) (at + 1) (empty || eqb at start)
space_kept text ends at spaces start empty lt is room h = record {
  cut = cut_space text at spaces lt is h.cut;
  room = length-set ends spaces (at % 256) ∙ h.room;
  each = kept_more text ends spaces at h.room room (omega (arith, lt)) (ends_here text at spaces lt is h.cut) h.each;
  low = omega arith;
  gaps = gap_space text at start empty lt is ∙ h.gaps;
}

-- behind a space whose place isn't kept, as 16 are, the text is cut with one space more
pub space_only : (text ends : List ℕ) (at spaces start : ℕ) (empty : Bool) → at < length text
    → get_or text at 0 ≡ 32 → 16 ≤ spaces → IsCutUpTo text ends at spaces start empty
    → IsCutUpTo text ends (at + 1) (spaces + 1) (at + 1) (empty || eqb at start)
space_only text ends at spaces start empty lt is full h = record {
  cut = cut_space text at spaces lt is h.cut;
  room = h.room;
  each = λ short i less few. h.each short i (omega (arith, few, full)) few;
  low = omega arith;
  gaps = gap_space text at start empty lt is ∙ h.gaps;
}

-- the ends that are kept of a text that is cut up to its end
pub ends_kept : (text ends : List ℕ) (len spaces start kept : ℕ) (empty : Bool) → length text ≡ len
    → IsCutUpTo text ends len spaces start empty → spaces < 16 → len < 256 → kept ≡ min (spaces + 1) 16
    → AreEnds text (slice_set ends spaces (len % 256)) kept
ends_kept text ends len spaces start kept empty is h few short all =
    let last : word_end text spaces ≡ len =
    ends_last text len spaces (omega (arith, is)) (omega (arith, is)) h.cut ∙ is in
    record {
      room = length-set ends spaces (len % 256) ∙ h.room;
      few = omega (arith, all);
      each = λ i lt. kept_more text ends spaces len h.room few (omega (arith, is)) last h.each
          (omega (arith, is, short)) i (omega (arith, lt, all)) (omega (arith, lt, all));
    }

-- where a text of less than 256 bytes has 16 spaces or more, the ends that are kept are those of its first 16 words
pub ends_full : (text ends : List ℕ) (len spaces start kept : ℕ) (empty : Bool) → length text ≡ len
    → IsCutUpTo text ends len spaces start empty → 16 ≤ spaces → len < 256 → kept ≡ min (spaces + 1) 16
    → AreEnds text ends kept
ends_full text ends len spaces start kept empty is h full short all = record {
  room = h.room;
  few = omega (arith, all);
  each = λ i lt. h.each (omega (arith, is, short)) i (omega (arith, lt, all, full)) (omega (arith, lt, all));
}

-- a list with room for 16 ends, of which none is kept, keeps the ends of no words
pub ends_none : (text ends : List ℕ) (kept : ℕ) → length ends ≡ 16 → kept ≡ 0 → AreEnds text ends kept
ends_none text ends kept room none = record {
  room = room;
  few = omega (arith, none);
  each = λ i lt. absurd (omega (arith, lt, none));
}

-- no space stands behind the end
pub space_within : (text : List ℕ) (at : ℕ) → get_or text at 0 ≡ 32 → at < length text
space_within text at is = go (leb_tells (length text) at) where
  go : ((leb (length text) at ≡ true) × (length text ≤ at)) ⊎ ((leb (length text) at ≡ false) × (at < length text))
      → at < length text
  go (inl p) = absurd (omega (arith, is, get_or_past text at 0 p.1))
  go (inr p) = p.1

-- The bits tell which bytes of a chunk, from a place on, are spaces.
pub record AreBits (text : List ℕ) (from at bits : ℕ) : Type 0 where
  pub set : (k : ℕ) → bit_at bits k ≡ 1 → (k < 16) × (at ≤ from + k) × (get_or text (from + k) 0 ≡ 32)
  pub each : (k : ℕ) → k < 16 → at ≤ from + k → get_or text (from + k) 0 ≡ 32 → bit_at bits k ≡ 1

-- bits that are set exactly for the spaces of a chunk tell which of its bytes, from its first on, are spaces
pub all_bits : (text : List ℕ) (from bits : ℕ)
    → ((k : ℕ) → (bit_at bits k ≡ 1) ↔ ((k < 16) × (get_or text (from + k) 0 ≡ 32))) → AreBits text from from bits
all_bits text from bits tells = record {
  set = λ k on. (((tells k).0 on).0, omega arith, ((tells k).0 on).1);
  each = λ k lt low is. (tells k).1 (lt, is);
}

-- up to the next space of a chunk
pub next_space : (text ends : List ℕ) (from at bits place spaces start : ℕ) (empty : Bool) → from ≤ at
    → AreBits text from at bits → bit_at bits place ≡ 1
    → ((k : ℕ) → k < place → bit_at bits k ≡ 0) → IsCutUpTo text ends at spaces start empty
    → IsCutUpTo text ends (from + place) spaces start empty
next_space text ends from at bits place spaces start empty low are on below h =
    let past : at ≤ from + place = (are.set place on).1 in
    let lt : place < 16 = (are.set place on).0 in
    let within : from + place < length text = space_within text (from + place) (are.set place on).2 in
    let e : at + (from + place - at) ≡ from + place = omega (arith, past) in
    subst (λ (k : ℕ). IsCutUpTo text ends k spaces start empty) e
    (over text ends (from + place - at) at spaces start empty (omega (arith, past, within))
    (λ k ge under is.
    let n : from + (k - from) ≡ k = omega (arith, ge, low) in
    let set : bit_at bits (k - from) ≡ 1 =
    are.each (k - from) (omega (arith, ge, low, under, past, lt)) (omega (arith, n, ge))
    (ap (λ (i : ℕ). get_or text i 0) n ∙ is) in
    let clear : bit_at bits (k - from) ≡ 0 = below (k - from) (omega (arith, ge, low, under, past)) in
    omega (arith, set, clear))
    h)

-- up to the end of a chunk in which no space is left, or of the text
pub no_space : (text ends : List ℕ) (from at bits spaces start : ℕ) (empty : Bool) → from ≤ at
    → at ≤ min (from + 16) (length text) → AreBits text from at bits → ((k : ℕ) → bit_at bits k ≡ 0)
    → IsCutUpTo text ends at spaces start empty
    → IsCutUpTo text ends (min (from + 16) (length text)) spaces start empty
no_space text ends from at bits spaces start empty low high are clear h =
    let to : ℕ = min (from + 16) (length text) in
    let near : to ≤ from + 16 = omega arith in
    let e : at + (to - at) ≡ to = omega (arith, high) in
    subst (λ (k : ℕ). IsCutUpTo text ends k spaces start empty) e
    (over text ends (to - at) at spaces start empty (omega (arith, high))
    (λ k ge under is.
    let n : from + (k - from) ≡ k = omega (arith, ge, low) in
    let set : bit_at bits (k - from) ≡ 1 =
    are.each (k - from) (omega (arith, ge, low, under, high, near)) (omega (arith, n, ge))
    (ap (λ (i : ℕ). get_or text i 0) n ∙ is) in
    omega (arith, set, clear (k - from)))
    h)

-- the bits behind a space
pub bits_behind : (text : List ℕ) (from at bits place rest : ℕ) → from ≤ at → AreBits text from at bits
    → bit_at bits place ≡ 1 → ((k : ℕ) → k < place → bit_at bits k ≡ 0)
    → ((k : ℕ) → k < 64 → k ≢ place → bit_at rest k ≡ bit_at bits k)
    → ((k : ℕ) → bit_at rest k ≡ 1 → bit_at bits k ≡ 1) → bit_at rest place ≡ 0
    → AreBits text from (from + place + 1) rest
bits_behind text from at bits place rest low are on below kept no_more gone = record {
  set = λ k set. go k set (no_more k set) (leb_tells k place);
  each = λ k lt past is.
      kept k (omega (arith, lt)) (λ same. omega (arith, past, same))
      ∙ are.each k lt (omega (arith, past, (are.set place on).1)) is;
} where
  go : (k : ℕ) → bit_at rest k ≡ 1 → bit_at bits k ≡ 1
      → ((leb k place ≡ true) × (k ≤ place)) ⊎ ((leb k place ≡ false) × (place < k))
      → (k < 16) × (from + place + 1 ≤ from + k) × (get_or text (from + k) 0 ≡ 32)
  go k set was (inr p) = ((are.set k was).0, omega (arith, p.1), (are.set k was).2)
  go k set was (inl p) = same (eqb_tells k place) where
    same : ((eqb k place ≡ true) × (k ≡ place)) ⊎ ((eqb k place ≡ false) × (k ≡ place → ⊥))
        → (k < 16) × (from + place + 1 ≤ from + k) × (get_or text (from + k) 0 ≡ 32)
    same (inl q) = absurd (omega (arith, set, gone, ap (λ (i : ℕ). bit_at rest i) q.1))
    same (inr q) = absurd (omega (arith, was, below k (omega (arith, p.1, q.1))))
