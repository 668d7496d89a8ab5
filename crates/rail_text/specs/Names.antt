-- Lists of names.
use Rattle.std.specs.Prelude.{◌≡◌, ℕ, ◌^◌, ◌≤◌, Bool, true, not, ◌&&◌, List, [], ◌∷◌, ◌++◌, length, bytes_eq}
use Rattle.std.specs.List.{list_any}

-- each name is new behind those in front and those before it
abbrev pub are_new : List (List ℕ) → List (List ℕ) → Bool
are_new front [] = true
are_new front (name ∷ names) = not (list_any (bytes_eq name) front) && are_new (front ++ name ∷ []) names

-- no name stands twice, and each has a number of 32 bits
pub record AreNumbered (names : List (List ℕ)) : Type 0 where
  pub distinct : are_new [] names ≡ true
  pub few : length names ≤ 2 ^ 32
