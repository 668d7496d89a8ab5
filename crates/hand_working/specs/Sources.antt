-- What a source of lines has given.
use Rattle.std.specs.Prelude.{ℕ, List, [], ◌∷◌, ◌++◌, Option, Some, None}

-- a line more, if there was one
abbrev pub given_more : List (List ℕ) → Option (List ℕ) → List (List ℕ)
given_more given None = given
given_more given (Some line) = given ++ line ∷ []
