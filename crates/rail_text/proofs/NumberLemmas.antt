-- A number that is read is printed so, and what is printed is read.
use Rattle.std.proofs.Common.{◌≡◌, ℕ, ◌+◌, ◌^◌, ◌<◌, ◌≤◌, Bool, true, false, cond, List, [], ◌∷◌, length, get_or, Some}
use Rattle.std.proofs.Common.{None, refl, sym, ap, ◌∙◌, arith, rules, decimal, inl, inr}
use Rattle.std.specs.Str.{all_ascii_digits}
use Rattle.std.proofs.lemmas.Str.Parse.{IsNumeralModel, numerals_by_fold, digits_value_short}
use Rattle.std.proofs.lemmas.Fmt.{digits_decimal, digits_value-decimal, decimal-digits_value, decimal_nonempty}
use Rattle.std.proofs.lemmas.Fmt.{length-decimal-le, first_decimal, decimal_digit}
use Rattle.std.proofs.lemmas.Bool.Decides.{nat_tests}
use Rattle.std.proofs.lemmas.Bool.{cases_lt}
use Rattle.rail_text.specs.Number.{read_on, is_number, number_of, IsPrinted}

-- digits that are read on from 0 make the number that they spell in decimal
pub own : IsNumeralModel (λ ds. all_ascii_digits ds ≡ true) (read_on 0)
own = numerals_by_fold _ (search rules) read_on (search rules)

pub is_number-decimal : (n : ℕ) → n < 10 ^ 10 → is_number (decimal n) ≡ true
is_number-decimal n small =
    let some : 0 < length (decimal n) = decimal_nonempty n (omega arith) in
    let few : length (decimal n) ≤ 10 = length-decimal-le 10 n (omega arith) small (omega arith) in
    let digits : all_ascii_digits (decimal n) ≡ true = digits_decimal own n (omega arith) in
    elim (cases_lt 0 n) [
      | inl pos ↦ let first : 48 < get_or (decimal n) 0 0 =
          first_decimal n pos (omega arith) in grind (arith, nat_tests)
      | inr le ↦ let one : decimal n ≡ (48 + n) ∷ [] =
          decimal_digit n (omega arith) in let len : length (decimal n) ≡ 1 = ap length one in grind (arith, nat_tests)
    ]

-- a number below 10^10, as it is printed, is read as itself
pub number_of-decimal : (n : ℕ) → n < 10 ^ 10 → number_of (decimal n) ≡ Some n
number_of-decimal n small = rw (is_number-decimal n small, digits_value-decimal own n (omega arith)) refl

chosen_some : (b : Bool) (m n : ℕ) → cond b (Some m) None ≡ Some n → (b ≡ true) × (m ≡ n)
chosen_some true m n e = (refl, cc)
chosen_some false m n e = absurd cc

number_parts : (word : List ℕ) → is_number word ≡ true
    → (0 < length word) × (length word ≤ 10) × (get_or word 0 0 ≡ 48 → length word ≡ 1) × (all_ascii_digits word ≡ true)
number_parts word e = grind (arith, nat_tests)

-- a word that is read as a number is how that number is printed, and the number is below 10^10
pub number_of-spelled : (word : List ℕ) (n : ℕ) → number_of word ≡ Some n → (word ≡ decimal n) × (n < 10 ^ 10)
number_of-spelled word n e =
    let c = chosen_some (is_number word) (read_on 0 word) n e in
    let p = number_parts word c.0 in
    let small : read_on 0 word < 10 ^ 10 = omega (arith, digits_value_short own word 10 p.3 p.1) in
    (sym (decimal-digits_value own word p.3 p.0 p.2 (omega arith)) ∙ ap decimal c.1, omega (arith, small, c.1))

-- a word is read as a number exactly where it is how that number is printed
pub IsPrinted-number_of : (word : List ℕ) (n : ℕ) → number_of word ≡ Some n → IsPrinted word n
IsPrinted-number_of word n e = let p = number_of-spelled word n e in record { digits = p.0; few = p.1 }

pub number_of-IsPrinted : (word : List ℕ) (n : ℕ) → IsPrinted word n → number_of word ≡ Some n
number_of-IsPrinted word n printed = ap number_of printed.digits ∙ number_of-decimal n printed.few

pub ruleset number_laws = (number_of-IsPrinted)
