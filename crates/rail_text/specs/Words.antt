-- The words of a line.
use Rattle.std.specs.Prelude.{ℕ, Bool, false, ◌&&◌, ◌||◌, nat_le, ◌==◌, List, [], ◌∷◌, length, Option, Some, None}
use Rattle.std.specs.Prelude.{Result, Ok, Err, if◌then◌else◌}
use Rattle.std.specs.List.{list_all}
use Rattle.rail_text.specs.Number.{number_of}
use Rattle.rail_text.specs.declared.cause.Cause.{Cause}
use Rattle.rail_text.specs.declared.cause.Cause.TheVariants as causes

-- the first word of a line
abbrev pub keyword : List (List ℕ) → List ℕ
keyword [] = []
keyword (word ∷ words) = word

-- the one word behind the keyword
abbrev pub one_word : List (List ℕ) → Result (List ℕ) Cause
one_word [] = Err causes.WordCount
one_word (a ∷ []) = Err causes.WordCount
one_word (a ∷ b ∷ []) = Ok b
one_word (a ∷ b ∷ c ∷ words) = Err causes.WordCount

-- the keyword stands alone
abbrev pub no_word : List (List ℕ) → Result (Unit {0}) Cause
no_word [] = Ok tt
no_word (a ∷ []) = Ok tt
no_word (a ∷ b ∷ words) = Err causes.WordCount

-- a number from low to high, and first that it is a number
abbrev pub within : ℕ → ℕ → Option ℕ → Result ℕ Cause
within low high None = Err causes.BadNumber
within low high (Some n) = if nat_le low n && nat_le n high then Ok n else Err causes.OutOfRange

-- the word as a number from low to high
abbrev pub number_in : ℕ → ℕ → List ℕ → Result ℕ Cause
number_in low high word = within low high (number_of word)

-- A to Z, a to z
abbrev pub is_letter : ℕ → Bool
is_letter c = (nat_le 65 c && nat_le c 90) || (nat_le 97 c && nat_le c 122)

-- a letter, a digit, an underscore or a hyphen
abbrev pub is_name_byte : ℕ → Bool
is_name_byte c = is_letter c || (nat_le 48 c && nat_le c 57) || c == 95 || c == 45

-- the first byte is a letter
abbrev pub starts_with_letter : List ℕ → Bool
starts_with_letter [] = false
starts_with_letter (c ∷ cs) = is_letter c

-- one to sixteen bytes: a letter, then letters, digits, underscores and hyphens
abbrev pub is_name : List ℕ → Bool
is_name word = nat_le (length word) 16 && starts_with_letter word && list_all is_name_byte word

-- the word as a name
abbrev pub name_in : List ℕ → Result (List ℕ) Cause
name_in word = if is_name word then Ok word else Err causes.BadName
