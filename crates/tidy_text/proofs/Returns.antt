-- A carriage return at the end of a line.
use Rattle.std.proofs.Common.{◌≡◌, ℕ, false, eqb, List, [], ◌∷◌, ◌++◌, refl, ap}
use Rattle.tidy_text.specs.Tidy.{without_return}

-- it goes
pub return_goes : (front : List ℕ) → without_return (front ++ 13 ∷ []) ≡ front
return_goes [] = refl
return_goes (b ∷ []) = refl
return_goes (b ∷ c ∷ bs) = ap (λ (xs : List ℕ). b ∷ xs) (return_goes (c ∷ bs))

-- another byte stays
pub other_stays : (front : List ℕ) (last : ℕ) → eqb last 13 ≡ false
    → without_return (front ++ last ∷ []) ≡ front ++ last ∷ []
other_stays [] last other = rw other refl
other_stays (b ∷ []) last other = rw other refl
other_stays (b ∷ c ∷ bs) last other = ap (λ (xs : List ℕ). b ∷ xs) (other_stays (c ∷ bs) last other)

pub ruleset return_rules = (return_goes, other_stays)
