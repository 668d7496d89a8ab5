-- Where the call of an entry's line ends and its reply begins.
use Rattle.std.specs.Prelude.{ℕ, List, [], ◌∷◌, Option, Some, None, if◌then◌else◌, bytes_eq, codes}

-- the words before the first `->`
abbrev pub before_arrow : List (List ℕ) → List (List ℕ)
before_arrow [] = []
before_arrow (word ∷ words) = if bytes_eq word (codes "->") then [] else word ∷ before_arrow words

-- the words behind the first `->`, if it stands
abbrev pub behind_arrow : List (List ℕ) → Option (List (List ℕ))
behind_arrow [] = None
behind_arrow (word ∷ words) = if bytes_eq word (codes "->") then Some words else behind_arrow words
