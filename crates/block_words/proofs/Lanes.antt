-- The lanes of a section's word: what filling and emptying one makes of the word.
use Rattle.std.proofs.Common.{◌≡◌, ◌≢◌, ℕ, ◌+◌, ◌-◌, ◌*◌, ◌/◌, ◌%◌, ◌^◌, ◌<◌, ◌==◌, if◌then◌else◌, true, false, ◌∙◌}
use Rattle.std.proofs.Common.{sym, ap, bit_and, bit_or, arith, lit<, refl}
use Rattle.std.specs.Int.Bits.{and_shifted}
use Rattle.std.proofs.lemmas.Bool.Decides.{nat_tests}
use Rattle.std.proofs.lemmas.Nat.{and_block, and-not, and_comm, or_disjoint}
use Rattle.std.proofs.lemmas.Nat.Bits.{and_high}
use Rattle.block_words.specs.Sections.{lane, lane_bits, lane_mask, lane_unit, lanes_word}

-- what holds at the lowest bit of each lane holds at that of the lane of the i-th train
each_lane : (P : ℕ → Type 0) → P (2 ^ 0) → P (2 ^ 16) → P (2 ^ 32) → P (2 ^ 48) → (i : ℕ) → P (lane_unit i)
each_lane P a b c d i =
    elim (i % 4 == 0) as
    (λ z. P (if z then 1
    else (if i % 4 == 1 then 65536 else (if i % 4 == 2 then 4294967296 else 281474976710656)))) [
      | true ↦ a
      | false ↦
          elim (i % 4 == 1) as (λ o. P (if o then 65536 else (if i % 4 == 2 then 4294967296 else 281474976710656))) [
            | true ↦ b
            | false ↦ elim (i % 4 == 2) as (λ t. P (if t then 4294967296 else 281474976710656)) [ true ↦ c | false ↦ d ]
          ]
    ]

-- two lanes that are not one have not one lowest bit
lane_unit-apart : (i j : ℕ) → j % 4 ≢ i % 4 → lane_unit j ≢ lane_unit i
lane_unit-apart i j apart = grind (arith, nat_tests)

module _ (w : ℕ) where
  abbrev SharesNone : ℕ → ℕ → Type 0
  SharesNone t u = w / u % 65536 ≡ 0 → bit_and w (t * u) ≡ 0

  -- the bits of a train in an empty lane are none of the word's
  shares_none : (k t : ℕ) → t < 65536 → 0 < 2 ^ k → SharesNone t (2 ^ k)
  shares_none k t small some empty =
      let high : w / 2 ^ k / 65536 * 2 ^ 16 ≡ w / 2 ^ k = omega arith in
      let above : bit_and (w / 2 ^ k) t ≡ 0 =
      ap (λ (n : ℕ). bit_and n t) (sym high) ∙ and_shifted (w / 2 ^ k / 65536) 16 t small in
      let below : bit_and (w % 2 ^ k) 0 ≡ 0 = and_comm (w % 2 ^ k) 0 in
      let whole : w / 2 ^ k * 2 ^ k + w % 2 ^ k ≡ w = omega arith in
      let low : w % 2 ^ k < 2 ^ k = omega arith in
      let bits : t * 2 ^ k + 0 ≡ t * 2 ^ k = omega arith in
      let parts : bit_and (w / 2 ^ k * 2 ^ k + w % 2 ^ k) (t * 2 ^ k + 0)
      ≡ bit_and (w / 2 ^ k) t * 2 ^ k + bit_and (w % 2 ^ k) 0 =
      and_block k (w / 2 ^ k) t (w % 2 ^ k) 0 low some
      in
      ap (λ (n : ℕ). bit_and n (t * 2 ^ k)) (sym whole)
      ∙ ap (λ (b : ℕ). bit_and (w / 2 ^ k * 2 ^ k + w % 2 ^ k) b) (sym bits) ∙ parts
      ∙ omega (arith, below, ap (λ (n : ℕ). n * 2 ^ k) above)

  -- an empty lane is filled by adding the train's bits
  pub bit_or-lane_bits : (i t : ℕ) → t < 65536 → lane w i ≡ 0 → bit_or w (lane_bits i t) ≡ w + lane_bits i t
  bit_or-lane_bits i t small empty =
      or_disjoint w (lane_bits i t)
      (each_lane (SharesNone t) (shares_none 0 t small (lit< tt)) (shares_none 16 t small (lit< tt))
      (shares_none 32 t small (lit< tt)) (shares_none 48 t small (lit< tt)) i empty)

  abbrev Empties : ℕ → Type 0
  Empties u = bit_and w (18446744073709551615 - 65535 * u) + w / u % 65536 * u ≡ w

  empties : (k : ℕ) → w < 2 ^ 64 → 2 ^ (16 + k) - 2 ^ k < 2 ^ 64
      → bit_and w (18446744073709551615 - (2 ^ (16 + k) - 2 ^ k)) + w / 2 ^ k % 65536 * 2 ^ k ≡ w
  empties k fits within =
      let parts : bit_and (18446744073709551615 - (2 ^ (16 + k) - 2 ^ k)) w + bit_and (2 ^ (16 + k) - 2 ^ k) w ≡ w =
      and-not 64 (2 ^ (16 + k) - 2 ^ k) w within fits in
      let kept : bit_and w (18446744073709551615 - (2 ^ (16 + k) - 2 ^ k))
      ≡ bit_and (18446744073709551615 - (2 ^ (16 + k) - 2 ^ k)) w = and_comm w _ in
      let taken : bit_and (2 ^ (16 + k) - 2 ^ k) w ≡ w / 2 ^ k % 65536 * 2 ^ k =
      and_comm (2 ^ (16 + k) - 2 ^ k) w ∙ and_high w 16 k in
      omega (arith, parts, kept, taken)

  -- a lane is emptied by taking its train's bits away
  pub bit_and-lane_mask : (i : ℕ) → w < 2 ^ 64 → bit_and w (lane_mask i) + lane_bits i (lane w i) ≡ w
  bit_and-lane_mask i fits =
      each_lane Empties (empties 0 fits (lit< tt)) (empties 16 fits (lit< tt)) (empties 32 fits (lit< tt))
      (empties 48 fits (lit< tt)) i

  abbrev Beside : ℕ → ℕ → ℕ → Type 0
  Beside t u v = v ≢ u → w / u % 65536 ≡ 0 → t < 65536 → (w + t * u) / v % 65536 ≡ w / v % 65536

  -- filling a lane leaves the others
  pub lane-add_other : (i j t : ℕ) → j % 4 ≢ i % 4 → lane w i ≡ 0 → t < 65536 → lane (w + lane_bits i t) j ≡ lane w j
  lane-add_other i j t apart =
      each_lane (λ u. Beside t u (lane_unit j))
      (each_lane (Beside t 1) (λ ne. absurd (ne refl)) (λ _ e s. omega arith) (λ _ e s. omega arith)
      (λ _ e s. omega arith) j)
      (each_lane (Beside t 65536) (λ _ e s. omega arith) (λ ne. absurd (ne refl)) (λ _ e s. omega arith)
      (λ _ e s. omega arith) j)
      (each_lane (Beside t 4294967296) (λ _ e s. omega arith) (λ _ e s. omega arith) (λ ne. absurd (ne refl))
      (λ _ e s. omega arith) j)
      (each_lane (Beside t 281474976710656) (λ _ e s. omega arith) (λ _ e s. omega arith) (λ _ e s. omega arith)
      (λ ne. absurd (ne refl)) j)
      i (lane_unit-apart i j apart)

  abbrev Filled : ℕ → ℕ → Type 0
  Filled t u = w / u % 65536 ≡ 0 → t < 65536 → (w + t * u) / u % 65536 ≡ t

  -- a lane that was filled holds its train
  pub lane-add_same : (i t : ℕ) → lane w i ≡ 0 → t < 65536 → lane (w + lane_bits i t) i ≡ t
  lane-add_same i t =
      each_lane (Filled t) (λ e s. omega arith) (λ e s. omega arith) (λ e s. omega arith) (λ e s. omega arith) i

  abbrev Emptied : ℕ → Type 0
  Emptied u = (v : ℕ) → v + w / u % 65536 * u ≡ w → v / u % 65536 ≡ 0

  -- what is left once a lane's train is taken away has that lane empty
  pub lane-taken_same : (i v : ℕ) → v + lane_bits i (lane w i) ≡ w → lane v i ≡ 0
  lane-taken_same i =
      each_lane Emptied (λ v e. omega arith) (λ v e. omega arith) (λ v e. omega arith) (λ v e. omega arith) i

-- a word without one of its trains has that lane empty
pub lane-bit_and_same : (w i : ℕ) → w < 2 ^ 64 → lane (bit_and w (lane_mask i)) i ≡ 0
lane-bit_and_same w i fits = lane-taken_same w i (bit_and w (lane_mask i)) (bit_and-lane_mask w i fits)

-- and the other lanes as they were
pub lane-bit_and_other : (w i j : ℕ) → w < 2 ^ 64 → j % 4 ≢ i % 4 → lane (bit_and w (lane_mask i)) j ≡ lane w j
lane-bit_and_other w i j fits apart =
    let rest : ℕ = bit_and w (lane_mask i) in
    let small : lane w i < 65536 = omega arith in
    sym (lane-add_other rest i j (lane w i) apart (lane-bit_and_same w i fits) small)
    ∙ ap (λ (n : ℕ). lane n j) (bit_and-lane_mask w i fits)

-- the lanes of a word of four lanes
pub lane-lanes_word : (train : ℕ → ℕ) (i : ℕ) → ((j : ℕ) → train j < 65536) → lane (lanes_word train) i ≡ train (i % 4)
lane-lanes_word train i small = grind (arith, nat_tests, small 0, small 1, small 2, small 3)

-- the four lanes of a word make the word
pub lanes_word-lane : (w : ℕ) → w < 2 ^ 64 → lanes_word (lane w) ≡ w
lanes_word-lane w fits = omega arith

-- two words of four lanes that differ in one lane, empty in the one and with a train in the other
pub lanes_word-filled : (f g : ℕ → ℕ) (i train : ℕ) → f (i % 4) ≡ 0 → g (i % 4) ≡ train
    → ((j : ℕ) → j ≢ i % 4 → g j ≡ f j) → lanes_word g ≡ lanes_word f + lane_bits i train
lanes_word-filled f g i train empty filled others = grind (arith, nat_tests, others 0, others 1, others 2, others 3)
