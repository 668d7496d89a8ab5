-- What stands at the places of a box.
use Rattle.std.specs.Prelude.{◌≡◌, ℕ, List, [], ◌∷◌, ◌++◌, Option, Some, None, All}
use Rattle.track_circuits.specs.Tracks.{occupant_of}
use Rattle.train_moves.specs.declared.standing.Standing.{Standing}

-- this place with its train, if it has one; else what comes later
abbrev pub standing_at : Option ℕ → ℕ → Option Standing → Option Standing
standing_at (Some train) place later = Some (record { place = place; train = train })
standing_at None place later = later

-- the first of these places on which a train stands, with the train
abbrev pub first_standing : List (Option ℕ) → List ℕ → Option Standing
first_standing tracks [] = None
first_standing tracks (place ∷ rest) = standing_at (occupant_of tracks place) place (first_standing tracks rest)

-- no train stands at these places
abbrev pub AreEmpty : List (Option ℕ) → List ℕ → Type 0
AreEmpty tracks places = All (λ place. occupant_of tracks place ≡ None) places

-- the train stands at this place of a row of places, and at those before it none does
pub record StandsFirst (tracks : List (Option ℕ)) (places : List ℕ) (place train : ℕ) : Type 0 where
  pub before : List ℕ
  pub behind : List ℕ
  pub row : places ≡ before ++ place ∷ behind
  pub empty : AreEmpty tracks before
  pub stands : occupant_of tracks place ≡ Some train
