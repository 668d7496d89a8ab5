-- A name is a text.
use Rattle.std.proofs.Common.{◌≡◌, ℕ, zero, suc, ◌<◌, Bool, true, false, ◌&&◌, List, [], ◌∷◌, get_or, IsUtf8, refl}
use Rattle.std.proofs.Common.{arith}
use Rattle.std.specs.List.{list_all}
use Rattle.std.proofs.lemmas.List.{get_or_past}
use Rattle.std.proofs.lemmas.Str.{IsUtf8-from_ascii}
use Rattle.std.proofs.lemmas.Bool.Decides.{nat_tests}
use Rattle.rail_text.specs.Words.{is_name_byte, is_name}

name_byte_is_ascii : (c : ℕ) → is_name_byte c ≡ true → c < 128
name_byte_is_ascii c e = grind (arith, nat_tests)

both : (a b : Bool) → a && b ≡ true → (a ≡ true) × (b ≡ true)
both true b e = (refl, e)
both false b e = absurd cc

all_ascii : (word : List ℕ) → list_all is_name_byte word ≡ true → (i : ℕ) → get_or word i 0 < 128
all_ascii [] e i = omega (arith, get_or_past {X = ℕ} [] i 0 (omega arith))
all_ascii (c ∷ cs) e zero = name_byte_is_ascii c (both _ _ e).0
all_ascii (c ∷ cs) e (suc i) = all_ascii cs (both _ _ e).1 i

pub name-IsUtf8 : (word : List ℕ) → is_name word ≡ true → IsUtf8 word
name-IsUtf8 word e = IsUtf8-from_ascii word (all_ascii word (both _ _ e).1)

pub ruleset name_rules = (name-IsUtf8)
