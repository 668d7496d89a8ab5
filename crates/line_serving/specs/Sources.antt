-- What a source of lines has given.
use Rattle.std.specs.Prelude.{ℕ, List, [], ◌∷◌, ◌++◌, Option, Some, None, option_map}

-- these lines more, where the source tells what it has given
abbrev pub given_all : Option (List (List ℕ)) → List (List ℕ) → Option (List (List ℕ))
given_all given lines = option_map (λ before. before ++ lines) given

-- a line more, if there was one
abbrev pub given_more : Option (List (List ℕ)) → Option (List ℕ) → Option (List (List ℕ))
given_more given None = given
given_more given (Some line) = given_all given (line ∷ [])
