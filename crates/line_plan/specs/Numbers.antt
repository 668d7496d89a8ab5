-- The index by which a number's place is found.
use Rattle.std.specs.Prelude.{ℕ, ◌≡◌, ◌+◌, ◌==◌, List, Option, Some, None, position, slice_index}

-- one more than a place, or 0 where there is none
abbrev pub counted : Option ℕ → ℕ
counted None = 0
counted (Some place) = place + 1

-- at each number one more than its place among the numbers, or 0 where it is none of them
abbrev pub IsIndex : List ℕ → List ℕ → Type 0
IsIndex numbers places = (n : ℕ) → slice_index places n ≡ counted (position (λ m. m == n) numbers)

-- both have the same at each number
abbrev pub AreAlike : List ℕ → List ℕ → Type 0
AreAlike old new = (n : ℕ) → slice_index new n ≡ slice_index old n
