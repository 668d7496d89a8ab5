-- Which code a word spells.
use Rattle.std.specs.Prelude.{ℕ, ◌+◌, ◌-◌, ◌&&◌, nat_le, ◌==◌, List, [], ◌∷◌, length, Option, Some, None, if◌then◌else◌}
use Rattle.std.specs.List.{slice_split}

-- the beats of a group: 1 to 9 in one digit, 10 to 16 in two
abbrev pub group_of : List ℕ → Option ℕ
group_of [] = None
group_of (ones ∷ []) = if nat_le 49 ones && nat_le ones 57 then Some (ones - 48) else None
group_of (tens ∷ ones ∷ []) = if tens == 49 && nat_le 48 ones && nat_le ones 54 then Some (10 + (ones - 48)) else None
group_of (tens ∷ ones ∷ more ∷ bytes) = None

-- a group and those behind it, where both are read
abbrev pub group_and_rest : Option ℕ → Option (List ℕ) → Option (List ℕ)
group_and_rest None rest = None
group_and_rest (Some beats) None = None
group_and_rest (Some beats) (Some rest) = Some (beats ∷ rest)

-- the groups, where each is one
abbrev pub groups_of : List (List ℕ) → Option (List ℕ)
groups_of [] = Some []
groups_of (group ∷ groups) = group_and_rest (group_of group) (groups_of groups)

-- the parts of a word between hyphens
abbrev pub parts_of : List ℕ → List (List ℕ)
parts_of word = slice_split (λ byte. byte == 45) word

-- the code that a word spells: at most five parts, each a group
unfoldable pub code_of : List ℕ → Option (List ℕ)
code_of word = if nat_le (length (parts_of word)) 5 then groups_of (parts_of word) else None
