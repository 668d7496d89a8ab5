-- What stands at the places of a box.
use Rattle.std.specs.Prelude.{ℕ, List, [], ◌∷◌, Option, Some, None, slice_index_or}
use Rattle.line_law.specs.declared.tracks.Standing.{Standing}

-- the train at a place
abbrev pub train_on : List (Option ℕ) → ℕ → Option ℕ
train_on places place = slice_index_or places place None

-- this place with its train, if it has one; else what comes later
abbrev pub standing_at : Option ℕ → ℕ → Option Standing → Option Standing
standing_at (Some train) place later = Some (record { place = place; train = train })
standing_at None place later = later

-- the first of these places on which a train stands, with the train
abbrev pub first_standing : List (Option ℕ) → List ℕ → Option Standing
first_standing places [] = None
first_standing places (place ∷ rest) = standing_at (train_on places place) place (first_standing places rest)
