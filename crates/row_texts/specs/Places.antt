-- The places at which each key stands in a list.
use Rattle.std.specs.Prelude.{◌≡◌, ℕ, ◌+◌, ◌<◌, ◌≤◌, ◌==◌, List, [], ◌∷◌, ◌++◌, Bool, length, slice_index_or}
use Rattle.std.specs.Prelude.{if◌then◌else◌}

-- the places of a key, counted on from a number
abbrev pub places_from : ℕ → ℕ → List ℕ → List ℕ
places_from from key [] = []
places_from from key (x ∷ xs) =
    if x == key then from ∷ places_from (from + 1) key xs else places_from (from + 1) key xs

-- the places of a key, from 0
abbrev pub places_of : ℕ → List ℕ → List ℕ
places_of key keys = places_from 0 key keys

-- for each key up to the most its places
pub record AreFiled (most : ℕ) (keys : List ℕ) (lists : List (List ℕ)) : Type 0 where
  pub long : length lists ≡ most + 1
  pub each : (key : ℕ) → key ≤ most → slice_index_or lists key [] ≡ places_of key keys

-- the number, where there is to be one
abbrev pub once : Bool → ℕ → List ℕ
once test number = if test then number ∷ [] else []

-- the lists of any key have one place more where it is this one
pub record IsFiled (old : List (List ℕ)) (key place : ℕ) (new : List (List ℕ)) : Type 0 where
  pub long : length new ≡ length old
  pub each : (at : ℕ) → at < length old
      → slice_index_or new at [] ≡ slice_index_or old at [] ++ once (key == at) place

-- so many lists without a place
pub record AreEmpty (count : ℕ) (lists : List (List ℕ)) : Type 0 where
  pub long : length lists ≡ count
  pub each : (key : ℕ) → slice_index_or lists key [] ≡ []
