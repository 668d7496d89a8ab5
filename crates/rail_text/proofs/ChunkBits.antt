-- The bits that tell which of sixteen bytes pass a comparison.
use Rattle.std.proofs.Common.{◌≡◌, ◌↔◌, ℕ, ◌+◌, ◌<◌, ◌≤◌, ◌%◌, ◌^◌, Bool, true, false, cond, eqb, leb, ltb, ◌&&◌, List}
use Rattle.std.proofs.Common.{zero, suc, ◌-◌, [], ◌∷◌, drop, ◌≢◌, w64, length, get_or, map, replicate, w8, bit_or}
use Rattle.std.proofs.Common.{true≢false, refl, sym, ap, ◌∙◌, arith, inl, inr, ◌⊎◌, max}
use Rattle.std.specs.Int.{bit_at, trailing_zeros}
use Rattle.std.proofs.lemmas.Simd.{tops_compared, mask_l-mod, bit_mask_l, get_or-zip2, get_or-replicate, length-zip2}
use Rattle.std.proofs.lemmas.List.{drop_more, drop-drop, get_or_past}
use Rattle.std.proofs.Math.ListN.{drop_of_length-le}
use Rattle.std.proofs.lemmas.List.Folds.{list_all_at}
use Rattle.std.specs.List.{list_all}
use Rattle.std.proofs.lemmas.Nat.Bits.{bit_at_or, bit_at-trailing_zeros, bit_at-zero}
use Rattle.std.proofs.lemmas.Bool.Decides.{eqb_tells, leb_tells}
use Rattle.std.proofs.lemmas.Bool.{eq-eqb, le-ltb, lt-ltb}
use Rattle.rail_text.specs.Forms.{is_printable}
use lib.Lanes.{mask_l, top, zip2}

-- the bits of a comparison of two vectors
abbrev pub compared : (ℕ → ℕ → Bool) → List ℕ → List ℕ → ℕ
compared t a b = mask_l (map (top 7) (zip2 (λ x y. cond (t x y) 255 0) a b)) % 2 ^ 64

compared_bit : (t : ℕ → ℕ → Bool) (a b : List ℕ) (k : ℕ) → length a ≡ 16 → length b ≡ 16
    → bit_at (compared t a b) k ≡ cond (get_or (zip2 t a b) k false) 1 0
compared_bit t a b k la lb =
    let n : length (zip2 t a b) ≡ 16 = length-zip2 t a b (la ∙ sym lb) ∙ la in
    ap (λ ms. bit_at (mask_l ms % 2 ^ 64) k) (tops_compared w8 t a b)
    ∙ ap (λ m. bit_at m k) (mask_l-mod (zip2 t a b) 64 (omega (arith, n)))
    ∙ bit_mask_l (zip2 t a b) k

bit_within : (t : ℕ → ℕ → Bool) (a b : List ℕ) (k : ℕ) → length a ≡ 16 → length b ≡ 16 → k < 16
    → bit_at (compared t a b) k ≡ cond (t (get_or a k 0) (get_or b k 0)) 1 0
bit_within t a b k la lb lt =
    compared_bit t a b k la lb
    ∙ ap (λ m. cond m 1 0) (get_or-zip2 t a b k 0 0 false (omega (arith, la, lt)) (omega (arith, lb, lt)))

bit_past : (t : ℕ → ℕ → Bool) (a b : List ℕ) (k : ℕ) → length a ≡ 16 → length b ≡ 16 → 16 ≤ k
    → bit_at (compared t a b) k ≡ 0
bit_past t a b k la lb ge =
    let n : length (zip2 t a b) ≡ 16 = length-zip2 t a b (la ∙ sym lb) ∙ la in
    compared_bit t a b k la lb
    ∙ ap (λ m. cond m 1 0) (get_or_past (zip2 t a b) k false (omega (arith, n, ge)))

splat_at : (n k y : ℕ) → k < n → get_or (replicate n y) k 0 ≡ y
splat_at n k y lt = get_or-replicate n k y 0 lt

-- the bit that tells a test, and the one that tells that it fails
abbrev bit_of : Bool → ℕ
bit_of m = cond m 1 0

abbrev bit_unless : Bool → ℕ
bit_unless m = cond m 0 1

set_is : (m : Bool) → bit_of m ≡ 1 → m ≡ true
set_is true e = refl
set_is false e = absurd (omega (arith, e))

-- the bit of a byte is set where that is the byte sought
pub space_bits : (bytes : List ℕ) (k v : ℕ) → length bytes ≡ 16 → (k < 16 → get_or bytes k 0 ≡ v)
    → (bit_at (compared eqb bytes (replicate 16 32)) k ≡ 1) ↔ ((k < 16) × (v ≡ 32))
space_bits bytes k v long at = (there, back) where
  here : k < 16 → bit_at (compared eqb bytes (replicate 16 32)) k ≡ cond (eqb v 32) 1 0
  here lt =
      bit_within eqb bytes (replicate 16 32) k long refl lt
      ∙ ap (λ b. cond (eqb b (get_or (replicate 16 32) k 0)) 1 0) (at lt)
      ∙ ap (λ b. cond (eqb v b) 1 0) (splat_at 16 k 32 lt)

  is_space : (eqb v 32 ≡ true) → v ≡ 32
  is_space e = go (eqb_tells v 32) where
    go : ((eqb v 32 ≡ true) × (v ≡ 32)) ⊎ ((eqb v 32 ≡ false) × (v ≡ 32 → ⊥)) → v ≡ 32
    go (inl p) = p.1
    go (inr p) = absurd (true≢false (sym e ∙ p.0))

  there : bit_at (compared eqb bytes (replicate 16 32)) k ≡ 1 → (k < 16) × (v ≡ 32)
  there set = go (leb_tells 16 k) where
    go : ((leb 16 k ≡ true) × (16 ≤ k)) ⊎ ((leb 16 k ≡ false) × (k < 16)) → (k < 16) × (v ≡ 32)
    go (inl p) = absurd (omega (arith, set, bit_past eqb bytes (replicate 16 32) k long refl p.1))
    go (inr p) = (p.1, is_space (set_is (eqb v 32) (sym (here p.1) ∙ set)))

  back : (k < 16) × (v ≡ 32) → bit_at (compared eqb bytes (replicate 16 32)) k ≡ 1
  back h = here h.0 ∙ ap (λ m. cond m 1 0) (eq-eqb v 32 h.1)

-- a byte that may not stand in a line is below the space or above the tilde
printable_or_odd : (v : ℕ) → max (cond (ltb v 32) 1 0) (cond (ltb 126 v) 1 0) ≡ cond (is_printable v) 0 1
printable_or_odd v = go (leb_tells 32 v) (leb_tells v 126) where
  go : ((leb 32 v ≡ true) × (32 ≤ v)) ⊎ ((leb 32 v ≡ false) × (v < 32))
      → ((leb v 126 ≡ true) × (v ≤ 126)) ⊎ ((leb v 126 ≡ false) × (126 < v))
      → max (cond (ltb v 32) 1 0) (cond (ltb 126 v) 1 0) ≡ cond (is_printable v) 0 1
  go (inl p) (inl q) = rw (le-ltb v 32 p.1, le-ltb 126 v q.1, p.0, q.0) refl
  go (inl p) (inr q) = rw (le-ltb v 32 p.1, lt-ltb 126 v q.1, p.0, q.0) refl
  go (inr p) (inl q) = rw (lt-ltb v 32 p.1, le-ltb 126 v q.1, p.0) refl
  go (inr p) (inr q) = rw (lt-ltb v 32 p.1, lt-ltb 126 v q.1, p.0) refl

-- the bits of the bytes that may not stand in a line
abbrev pub odd_chunk : List ℕ → ℕ
odd_chunk bytes = bit_or (compared ltb bytes (replicate 16 32)) (compared ltb (replicate 16 126) bytes)

-- of 16 bytes, exactly those have their bits set that may not stand in a line
pub odd_bits : (bytes : List ℕ) (k v : ℕ) → length bytes ≡ 16 → (k < 16 → get_or bytes k 0 ≡ v)
    → (bit_at (odd_chunk bytes) k ≡ 1) ↔ ((k < 16) × (is_printable v ≡ false))
odd_bits bytes k v long at = (there, back) where
  low : ℕ
  low = compared ltb bytes (replicate 16 32)

  high : ℕ
  high = compared ltb (replicate 16 126) bytes

  here : k < 16 → bit_at (bit_or low high) k ≡ cond (is_printable v) 0 1
  here lt =
      bit_at_or low high k
      ∙ ap (λ n. max n (bit_at high k)) (bit_within ltb bytes (replicate 16 32) k long refl lt
      ∙ ap (λ b. cond (ltb b (get_or (replicate 16 32) k 0)) 1 0) (at lt)
      ∙ ap (λ b. cond (ltb v b) 1 0) (splat_at 16 k 32 lt))
      ∙ ap (λ n. max (cond (ltb v 32) 1 0) n) (bit_within ltb (replicate 16 126) bytes k refl long lt
      ∙ ap (λ b. cond (ltb (get_or (replicate 16 126) k 0) b) 1 0) (at lt)
      ∙ ap (λ b. cond (ltb b v) 1 0) (splat_at 16 k 126 lt))
      ∙ printable_or_odd v

  past : 16 ≤ k → bit_at (bit_or low high) k ≡ 0
  past ge =
      bit_at_or low high k
      ∙ ap (λ n. max n (bit_at high k)) (bit_past ltb bytes (replicate 16 32) k long refl ge)
      ∙ ap (λ n. max 0 n) (bit_past ltb (replicate 16 126) bytes k refl long ge)

  odd : (m : Bool) → bit_unless m ≡ 1 → m ≡ false
  odd true e = absurd (omega (arith, e))
  odd false e = refl

  there : bit_at (bit_or low high) k ≡ 1 → (k < 16) × (is_printable v ≡ false)
  there set = go (leb_tells 16 k) where
    go : ((leb 16 k ≡ true) × (16 ≤ k)) ⊎ ((leb 16 k ≡ false) × (k < 16)) → (k < 16) × (is_printable v ≡ false)
    go (inl p) = absurd (omega (arith, set, past p.1))
    go (inr p) = (p.1, odd (is_printable v) (sym (here p.1) ∙ set))

  back : (k < 16) × (is_printable v ≡ false) → bit_at (bit_or low high) k ≡ 1
  back h = here h.0 ∙ ap (λ m. cond m 0 1) h.1

-- whether all bytes from a place on may stand in a line, by those of one chunk and the rest
below_all : (text : List ℕ) (at n : ℕ) → ((k : ℕ) → k < n → is_printable (get_or text (at + k) 0) ≡ true)
    → at + n ≤ length text → list_all is_printable (drop at text) ≡ list_all is_printable (drop (at + n) text)
below_all text at zero each within =
    let e : at ≡ at + 0 = omega arith in
    ap (λ (i : ℕ). list_all is_printable (drop i text)) e
below_all text at (suc n) each within =
    let first : at ≡ at + 0 = omega arith in
    let next : at + 1 + n ≡ at + suc n = omega arith in
    let here : is_printable (get_or text at 0) ≡ true =
    ap (λ (i : ℕ). is_printable (get_or text i 0)) first ∙ each 0 (omega arith) in
    ap (list_all is_printable) (drop_more text at 0 (omega (arith, within)))
    ∙ ap (λ (b : Bool). b && list_all is_printable (drop (at + 1) text)) here
    ∙ below_all text (at + 1) n
    (λ k lt.
    let e : at + 1 + k ≡ at + suc k = omega arith in
    ap (λ (i : ℕ). is_printable (get_or text i 0)) e ∙ each (suc k) (omega (arith, lt)))
    (omega (arith, within))
    ∙ ap (λ (i : ℕ). list_all is_printable (drop i text)) next

-- no bit tells an odd byte
pub none_odd : (text : List ℕ) (at odd : ℕ)
    → ((k : ℕ) → (bit_at odd k ≡ 1) ↔ ((k < 16) × (is_printable (get_or text (at + k) 0) ≡ false))) → odd ≡ 0
    → at + 16 ≤ length text → list_all is_printable (drop at text) ≡ list_all is_printable (drop (at + 16) text)
none_odd text at odd bits none within = below_all text at 16 each within where
  each : (k : ℕ) → k < 16 → is_printable (get_or text (at + k) 0) ≡ true
  each k lt = go (is_printable (get_or text (at + k) 0)) refl where
    go : (m : Bool) → is_printable (get_or text (at + k) 0) ≡ m → is_printable (get_or text (at + k) 0) ≡ true
    go true e = e
    go false e =
        let set : bit_at odd k ≡ 1 = (bits k).1 (lt, e) in
        let clear : bit_at odd k ≡ 0 = ap (λ (m : ℕ). bit_at m k) none ∙ bit_at-zero k in
        absurd (omega (arith, set, clear))

-- some bit tells an odd byte
pub some_odd : (text : List ℕ) (at odd : ℕ)
    → ((k : ℕ) → (bit_at odd k ≡ 1) ↔ ((k < 16) × (is_printable (get_or text (at + k) 0) ≡ false))) → odd ≢ 0
    → odd < 2 ^ 64 → at + 16 ≤ length text → list_all is_printable text ≡ false
some_odd text at odd bits some fits within =
    list_all_at is_printable text (at + lowest) 0 (omega (arith, told.0, within)) told.1 where
      lowest : ℕ
      lowest = trailing_zeros w64 odd

      told : (lowest < 16) × (is_printable (get_or text (at + lowest) 0) ≡ false)
      told = (bits lowest).0 (bit_at-trailing_zeros w64 odd (omega (arith, some)) fits).1

-- what stands behind some of the bytes passes where all do
all_behind : (text : List ℕ) (n : ℕ) → list_all is_printable text ≡ true → list_all is_printable (drop n text) ≡ true
all_behind text zero all = all
all_behind [] (suc n) all = refl
all_behind (b ∷ bs) (suc n) all = all_behind bs n (go (is_printable b) all) where
  go : (m : Bool) → (m && list_all is_printable bs) ≡ true → list_all is_printable bs ≡ true
  go true e = e
  go false e = absurd (true≢false (sym e))

-- The last chunk tells of what is left of a text, where all before that may stand in a line.
pub last_chunk : (text : List ℕ) (at odd : ℕ)
    → ((k : ℕ) → (bit_at odd k ≡ 1)
    ↔ ((k < 16) × (is_printable (get_or text (length text - 16 + k) 0) ≡ false)))
    → odd < 2 ^ 64 → 16 ≤ length text → at ≤ length text → length text - at ≤ 16
    → list_all is_printable (drop at text) ≡ list_all is_printable text → eqb odd 0 ≡ list_all is_printable text
last_chunk text at odd bits fits long within near so_far = go (eqb_tells odd 0) where
  last : ℕ
  last = length text - 16

  go : ((eqb odd 0 ≡ true) × (odd ≡ 0)) ⊎ ((eqb odd 0 ≡ false) × (odd ≢ 0)) → eqb odd 0 ≡ list_all is_printable text
  go (inr p) = p.0 ∙ sym (some_odd text last odd bits p.1 fits (omega (arith, long)))
  go (inl p) =
      let n : last + (at - last) ≡ at = omega (arith, within, near, long) in
      let end : length text ≤ last + 16 = omega (arith, long) in
      let here : list_all is_printable (drop last text) ≡ true =
      none_odd text last odd bits p.1 (omega (arith, long))
      ∙ ap (list_all is_printable) (drop_of_length-le text end) in
      let behind : list_all is_printable (drop at text) ≡ true =
      ap (λ (k : ℕ). list_all is_printable (drop k text)) (sym n)
      ∙ ap (list_all is_printable) (sym (drop-drop (at - last) last text))
      ∙ all_behind (drop last text) (at - last) here in
      p.0 ∙ sym behind ∙ so_far
