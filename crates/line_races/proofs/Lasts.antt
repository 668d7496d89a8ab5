-- The last position at which a test holds, and the nearest one at which something is so.
use Rattle.std.proofs.Common.{ℕ, zero, suc, ◌<◌, ◌≤◌, ◌≡◌, ◌⊎◌, inl, inr, ⊎_elim, Bool, true, false, Option, Some, None}
use Rattle.std.proofs.Common.{refl, ap, subst, ◌∙◌, arith, max}
use Rattle.std.specs.Prelude.{nat_lt, if◌then◌else◌}
use Rattle.std.proofs.lemmas.Bool.{cases_lt, ltb-true, ltb-false}
use Rattle.line_races.specs.Nearest.{if_unknown, last_where, later_of}

-- ---- by a test

-- the last position before j at which a test holds
pub record IsLast (test : ℕ → Bool) (j i : ℕ) : Type 0 where
  pub before : i < j
  pub holds : test i ≡ true
  pub none_behind : (k : ℕ) → i < k → k < j → test k ≡ false

-- the same, if there is one
abbrev pub IsLastOf : (ℕ → Bool) → ℕ → Option ℕ → Type 0
IsLastOf test j None = (k : ℕ) → k < j → test k ≡ false
IsLastOf test j (Some i) = IsLast test j i

one_more : (test : ℕ → Bool) (j : ℕ) (o : Option ℕ) → test j ≡ false → IsLastOf test j o → IsLastOf test (suc j) o
one_more test j None fails none = λ k h.
    ⊎_elim (λ (lt : k < j). none k lt)
    (λ (le : j ≤ k). let same : k ≡ j = omega arith in ap test same ∙ fails) (cases_lt k j)
one_more test j (Some i) fails last = record {
  before = let b = last.before in omega arith;
  holds = last.holds;
  none_behind = λ k b h.
      ⊎_elim (λ (lt : k < j). last.none_behind k b lt)
      (λ (le : j ≤ k). let same : k ≡ j = omega arith in ap test same ∙ fails) (cases_lt k j);
}

last_by : (test : ℕ → Bool) (j : ℕ) (b : Bool) → test j ≡ b → IsLastOf test j (last_where test j)
    → IsLastOf test (suc j) (if b then Some j else last_where test j)
last_by test j true passes before =
    record { before = omega arith; holds = passes; none_behind = λ k b h. absurd (omega arith) }
last_by test j false fails before = one_more test j (last_where test j) fails before

-- what is found is the last position
pub last_is : (test : ℕ → Bool) (j : ℕ) → IsLastOf test j (last_where test j)
last_is test zero = λ k h. absurd (omega arith)
last_is test (suc j) = last_by test j (test j) refl (last_is test j)

-- ---- by what is so there

-- the nearest position at which something is so, if there is one
abbrev pub IsNearestOf : (ℕ → Type 0) → Option ℕ → Type 0
IsNearestOf R None = (k : ℕ) → R k → ⊥
IsNearestOf R (Some i) = R i × ((k : ℕ) → i < k → R k → ⊥)

-- the later of two nearest ones is the nearest at which either is so
pub nearest_of_two : (P Q : ℕ → Type 0) (a b : Option ℕ) → IsNearestOf P a → IsNearestOf Q b
    → IsNearestOf (λ k. P k ⊎ Q k) (later_of a b)
nearest_of_two P Q None None p q = λ k. ⊎_elim (p k) (q k)
nearest_of_two P Q None (Some i) p q = (inr q.0, λ k h. ⊎_elim (p k) (q.1 k h))
nearest_of_two P Q (Some i) None p q = (inl p.0, λ k h. ⊎_elim (p.1 k h) (q k))
nearest_of_two P Q (Some i) (Some j) p q =
    ⊎_elim (λ (lt : i < j).
    let m : j ≡ max i j = omega arith in
    subst (λ (n : ℕ). (P n ⊎ Q n) × ((k : ℕ) → n < k → P k ⊎ Q k → ⊥)) m
    (inr q.0, λ k h. ⊎_elim (p.1 k (omega arith)) (q.1 k h)))
    (λ (le : j ≤ i).
    let m : i ≡ max i j = omega arith in
    subst (λ (n : ℕ). (P n ⊎ Q n) × ((k : ℕ) → n < k → P k ⊎ Q k → ⊥)) m
    (inl p.0, λ k h. ⊎_elim (p.1 k h) (q.1 k (omega arith))))
    (cases_lt i j)

-- what is known reaches as far as a position
abbrev pub IsReached : ℕ → Option ℕ → Type 0
IsReached i None = ⊥
IsReached i (Some k) = i ≤ k

-- the later of two positions reaches as far as the first
pub reached_left : (i : ℕ) (a b : Option ℕ) → IsReached i a → IsReached i (later_of a b)
reached_left i None b r = absurd r
reached_left i (Some k) None r = r
reached_left i (Some k) (Some n) r = omega arith

-- the later of two positions reaches as far as the second
pub reached_right : (i : ℕ) (a b : Option ℕ) → IsReached i b → IsReached i (later_of a b)
reached_right i None b r = r
reached_right i (Some k) None r = absurd r
reached_right i (Some k) (Some n) r = omega arith

-- as far as the later of two positions reaches, one of the two does
pub reached_by : (i : ℕ) (a b : Option ℕ) → IsReached i (later_of a b) → IsReached i a ⊎ IsReached i b
reached_by i None b r = inr r
reached_by i (Some k) None r = inl r
reached_by i (Some k) (Some n) r =
    ⊎_elim (λ (lt : k < n). inr (omega arith)) (λ (le : n ≤ k). inl (omega arith)) (cases_lt k n)

-- the last position that is kept off by another: the test on numbers
unknown_by : (R W : ℕ → Type 0) (n i : ℕ) (b : Bool) → nat_lt n i ≡ b
    → R i → ((k : ℕ) → i < k → R k → ⊥) → (R i → W i → i ≤ n) → ((k : ℕ) → R k → k ≤ n → W k)
    → IsNearestOf (λ k. R k × (W k → ⊥)) (if b then Some i else None)
unknown_by R W n i true t here none to from =
    let lt : n < i = ltb-true n i t in
    ((here, λ w. let le : i ≤ n = to here w in absurd (omega arith)), λ k h r. none k h r.0)
unknown_by R W n i false t here none to from =
    let le : i ≤ n = ltb-false n i t in
    λ k r.
    ⊎_elim (λ (lt : i < k). none k lt r.0) (λ (ge : k ≤ i). r.1 (from k r.0 (omega arith))) (cases_lt i k)

-- Where exactly what is known reaches as far as what is waited for, the nearest position behind it is the nearest one
-- that isn't waited for
pub nearest_unknown : (R W : ℕ → Type 0) (known found : Option ℕ) → IsNearestOf R found
    → ((k : ℕ) → R k → W k → IsReached k known) → ((k : ℕ) → R k → IsReached k known → W k)
    → IsNearestOf (λ k. R k × (W k → ⊥)) (if_unknown known found)
nearest_unknown R W None None near to from = λ k r. near k r.0
nearest_unknown R W (Some n) None near to from = λ k r. near k r.0
nearest_unknown R W None (Some i) near to from = ((near.0, λ w. to i near.0 w), λ k h r. near.1 k h r.0)
nearest_unknown R W (Some n) (Some i) near to from =
    unknown_by R W n i (nat_lt n i) refl near.0 near.1 (to i) from
