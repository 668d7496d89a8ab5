-- Bell codes and how they are written. A code is the list of its groups, each the number of its beats: three beats,
-- a pause and one beat are `3 ∷ 1 ∷ []`, written 3-1.
use Rattle.std.specs.Prelude.{◌≡◌, ℕ, Bool, ◌&&◌, ◌||◌, ◌==◌, nat_le, IsTrue, List, [], ◌∷◌, ◌++◌, length, decimal}
use Rattle.std.specs.List.{list_all, flat_map}

-- a group has 1 to 16 beats
abbrev pub is_group : ℕ → Bool
is_group beats = nat_le 1 beats && nat_le beats 16

-- a code has 1 to 5 groups
unfoldable pub is_code : List ℕ → Bool
is_code code = nat_le 1 (length code) && nat_le (length code) 5 && list_all is_group code

-- a further group stands behind a hyphen
abbrev pub further_group : ℕ → List ℕ
further_group beats = 45 ∷ decimal beats

-- the one spelling of a code: its groups in decimal, joined by hyphens
unfoldable pub code_text : List ℕ → List ℕ
code_text [] = []
code_text (first ∷ rest) = decimal first ++ flat_map further_group rest

-- the bytes of a code's text: digits and hyphens
abbrev pub is_code_byte : ℕ → Bool
is_code_byte byte = (nat_le 48 byte && nat_le byte 57) || byte == 45

-- this word spells this code
abbrev pub Spells : List ℕ → List ℕ → Type 0
Spells word code = IsTrue (is_code code) × (word ≡ code_text code)
