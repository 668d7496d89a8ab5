-- What a filter keeps.
use Rattle.std.proofs.Common.{◌≡◌, ◌⊎◌, suc, zero, Bool, true, false, cond, inl, inr, List, [], ◌∷◌, refl, sym}
use Rattle.std.proofs.Common.{subst, arith}
use Rattle.std.specs.Prelude.{Contains, filter}
use Rattle.std.proofs.lemmas.List.Elements.{All-contains, filter_passes}
use Rattle.reg_audit.proofs.InOrder.{contains_none}

contains_head : {X : Type 0} (x : X) (xs : List X) → Contains (x ∷ xs) x
contains_head x xs = (0, omega arith, refl)

-- what is among those behind is among all
pub contains_tail : {X : Type 0} (y x : X) (xs : List X) → Contains xs x → Contains (y ∷ xs) x
contains_tail y x xs h = (suc h.0, let lt = h.1 in omega (arith, lt), h.2)

-- the first, or one of those behind
pub contains_cases : {X : Type 0} (y x : X) (xs : List X) → Contains (y ∷ xs) x → (y ≡ x) ⊎ Contains xs x
contains_cases y x xs (zero, lt, is) = inl is
contains_cases y x xs (suc k, lt, is) = inr (k, omega (arith, lt), is)

-- what passes is kept
pub contains_kept : {X : Type 0} (test : X → Bool) (x : X) (xs : List X) → test x ≡ true → Contains xs x
    → Contains (filter test xs) x
contains_kept test x [] passes h = absurd (contains_none x h)
contains_kept {X = X} test x (y ∷ xs) passes h =
    go (test y) refl (contains_cases y x xs h) (λ later. contains_kept test x xs passes later) where
      go : (kept : Bool) → test y ≡ kept → (y ≡ x) ⊎ Contains xs x
          → (Contains xs x → Contains (filter test xs) x)
          → Contains (cond kept (y ∷ filter test xs) (filter test xs)) x
      go true is (inl same) later = subst (λ (z : X). Contains (z ∷ filter test xs) x) (sym same) (contains_head x _)
      go true is (inr there) later = contains_tail y x _ (later there)
      go false is (inl same) later =
          absurd (let no : test x ≡ false = subst (λ (z : X). test z ≡ false) same is in cc)
      go false is (inr there) later = later there

-- what is kept was there
pub kept_contains : {X : Type 0} (test : X → Bool) (x : X) (xs : List X) → Contains (filter test xs) x
    → Contains xs x
kept_contains test x [] h = absurd (contains_none x h)
kept_contains {X = X} test x (y ∷ xs) h = go (test y) h (λ later. kept_contains test x xs later) where
  go : (kept : Bool) → Contains (cond kept (y ∷ filter test xs) (filter test xs)) x
      → (Contains (filter test xs) x → Contains xs x) → Contains (y ∷ xs) x
  go true h later = elim (contains_cases y x (filter test xs) h) [
    | inl same ↦ subst (λ (z : X). Contains (z ∷ xs) x) (sym same) (contains_head x xs)
    | inr there ↦ contains_tail y x xs (later there)
  ]
  go false h later = contains_tail y x xs (later h)

-- what is kept passes
pub kept_passes : {X : Type 0} (test : X → Bool) (x : X) (xs : List X) → Contains (filter test xs) x
    → test x ≡ true
kept_passes test x xs h = All-contains (λ y. test y ≡ true) (filter test xs) x (filter_passes test xs) h
