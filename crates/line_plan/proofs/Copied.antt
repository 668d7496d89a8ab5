-- Names that are copied one by one.
use Rattle.std.proofs.Common.{◌≡◌, ℕ, zero, suc, ◌+◌, true, false, List, [], ◌∷◌, ◌++◌, take, slice_get, Some, refl}
use Rattle.std.proofs.Common.{ap, add-one, append_assoc, bytes_eq}
use Rattle.std.specs.List.{list_any}
use Rattle.std.proofs.lemmas.List.{append-nil}
use Rattle.rail_text.specs.Names.{are_new, AreNumbered}
use Rattle.rail_text.proofs.PrintedLines.{both, not_true}

new_behind : (front names : List (List ℕ)) (i : ℕ) (name : List ℕ) → are_new front names ≡ true
    → slice_get names i ≡ Some name → list_any (bytes_eq name) (front ++ take i names) ≡ false
new_behind front [] i name new at = absurd cc
new_behind front (first ∷ names) zero name new at =
    let is : first ≡ name = cc in
    rw append-nil (rw (← is) (not_true _ (both _ _ new).0))
new_behind front (first ∷ names) (suc i) name new at =
    rw append_assoc at (new_behind (front ++ first ∷ []) names i name (both _ _ new).1 at)

-- a name of different ones is not among those before it
pub name_new : (names : List (List ℕ)) (i : ℕ) (name : List ℕ) → AreNumbered names → slice_get names i ≡ Some name
    → list_any (bytes_eq name) (take i names) ≡ false
name_new names i name numbered at = new_behind [] names i name numbered.distinct at

take_more : (names : List (List ℕ)) (i : ℕ) (name : List ℕ) → slice_get names i ≡ Some name
    → take (suc i) names ≡ take i names ++ name ∷ []
take_more [] i name at = absurd cc
take_more (first ∷ names) zero name at = let is : first ≡ name = cc in rw is refl
take_more (first ∷ names) (suc i) name at = ap (λ (behind : List (List ℕ)). first ∷ behind) (take_more names i name at)

-- a name more
pub take_next : (names : List (List ℕ)) (i : ℕ) (name : List ℕ) → slice_get names i ≡ Some name
    → take (i + 1) names ≡ take i names ++ name ∷ []
take_next names i name at = rw add-one (take_more names i name at)

pub ruleset name_rules = (name_new, take_next)
