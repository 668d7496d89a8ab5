-- A text is cut at the first place of a byte.
use Rattle.std.proofs.Common.{◌≡◌, ℕ, zero, suc, ◌+◌, ◌<◌, ◌≤◌, Bool, true, false, eqb, List, [], ◌∷◌, length, take}
use Rattle.std.proofs.Common.{drop, slice_index, Some, None, refl, arith}
use Rattle.memchr.specs.Find.{IsFirstByte, is_byte}
use Rattle.rail_text.specs.Lines.{cut_of}

-- the byte stands at no place before k
abbrev LacksBefore : ℕ → List ℕ → ℕ → Type 0
LacksBefore at bytes k = (j : ℕ) → 0 ≤ j → j < k → ¬ (is_byte at (slice_index bytes j) ≡ true)

not_true : (t : Bool) → ¬ (t ≡ true) → t ≡ false
not_true true h = absurd (h refl)
not_true false h = refl

cut_none : (at : ℕ) (bytes : List ℕ) → LacksBefore at bytes (length bytes) → cut_of at bytes ≡ (bytes, None)
cut_none at [] h = refl
cut_none at (b ∷ bs) h =
    let other : eqb b at ≡ false = not_true (eqb b at) (h 0 (omega arith) (omega arith)) in
    rw (other, cut_none at bs (λ k low high. h (suc k) (omega arith) (omega arith))) refl

cut_first : (at : ℕ) (bytes : List ℕ) (k : ℕ) → k < length bytes → LacksBefore at bytes k
    → is_byte at (slice_index bytes k) ≡ true → cut_of at bytes ≡ (take k bytes, Some (drop (suc k) bytes))
cut_first at [] k within before here = absurd (omega arith)
cut_first at (b ∷ bs) zero within before here = let is : eqb b at ≡ true = here in rw is refl
cut_first at (b ∷ bs) (suc k) within before here =
    let other : eqb b at ≡ false = not_true (eqb b at) (before 0 (omega arith) (omega arith)) in
    let later : LacksBefore at bs k = λ j low high. before (suc j) (omega arith) (omega arith) in
    rw (other, cut_first at bs k (omega arith) later here) refl

pub first_none : (at : ℕ) (bytes : List ℕ) → IsFirstByte (is_byte at) bytes None → cut_of at bytes ≡ (bytes, None)
first_none at bytes none = cut_none at bytes none

-- where the byte first stands at k, the text is cut into what is before k and what is behind it
pub first_some : (at : ℕ) (bytes : List ℕ) (k : ℕ) → IsFirstByte (is_byte at) bytes (Some k)
    → cut_of at bytes ≡ (take k bytes, Some (drop (k + 1) bytes))
first_some at bytes k some =
    let next : k + 1 ≡ suc k = omega arith in
    rw next (cut_first at bytes k some.0.high some.0.before some.1)

pub ruleset first_rules = (first_none, first_some)
