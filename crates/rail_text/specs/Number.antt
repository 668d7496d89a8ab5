-- Numbers as texts.
use Rattle.std.specs.Prelude.{◌≡◌, ℕ, ◌+◌, ◌-◌, ◌*◌, ◌^◌, ◌<◌, Bool, ◌&&◌, ◌||◌, not, nat_lt, nat_le, ◌==◌, List, []}
use Rattle.std.specs.Prelude.{◌∷◌, length, slice_index, Option, Some, None, if◌then◌else◌, decimal}
use Rattle.std.specs.Str.{all_ascii_digits}

-- the number that digits make behind the digits of n
abbrev pub read_on : ℕ → List ℕ → ℕ
read_on n [] = n
read_on n (c ∷ cs) = read_on (10 * n + (c - 48)) cs

-- one to ten digits, the first of several no 0
abbrev pub is_number : List ℕ → Bool
is_number word = nat_lt 0 (length word) && nat_le (length word) 10
    && (not (slice_index word 0 == 48) || length word == 1) && all_ascii_digits word

abbrev pub number_of : List ℕ → Option ℕ
number_of word = if is_number word then Some (read_on 0 word) else None

-- the word is how the number is printed, in at most ten digits
pub record IsPrinted (word : List ℕ) (n : ℕ) : Type 0 where
  pub digits : word ≡ decimal n
  pub few : n < 10 ^ 10
