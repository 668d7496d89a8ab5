-- A word names a lever exactly where it is the lever's number as it is printed.
use Rattle.std.proofs.Common.{◌≡◌, ℕ, ◌+◌, ◌-◌, ◌*◌, ◌<◌, ◌≤◌, Bool, true, false, ◌&&◌, ◌==◌, if◌then◌else◌, List, []}
use Rattle.std.proofs.Common.{◌∷◌, length, get_or, Option, Some, None, refl, sym, ap, ◌∙◌, arith, rules, decimal}
use Rattle.std.specs.Prelude.{nat_le}
use Rattle.std.specs.Char.{is_ascii_digit}
use Rattle.std.specs.Str.{all_ascii_digits}
use Rattle.std.proofs.lemmas.Str.Parse.{IsNumeralModel, numerals_by_fold}
use Rattle.std.proofs.lemmas.Fmt.{digits_decimal, digits_value-decimal, decimal-digits_value, first_decimal}
use Rattle.std.proofs.lemmas.Bool.{and_from, and_parts}
use Rattle.std.proofs.lemmas.Bool.Decides.{nat_tests}
use Rattle.locking_table.specs.Places.{IsLever}
use Rattle.locking_table.specs.Reading.{lever_of, lever_on, with_digit}

-- the number that digits make behind the digits of n
abbrev pub read_on : ℕ → List ℕ → ℕ
read_on n [] = n
read_on n (c ∷ cs) = read_on (10 * n + (c - 48)) cs

-- digits that are read on from 0 make the number that they spell in decimal
pub own : IsNumeralModel (λ ds. all_ascii_digits ds ≡ true) (read_on 0)
own = numerals_by_fold _ (search rules) read_on (search rules)

read_on-le : (n : ℕ) (cs : List ℕ) → n ≤ read_on n cs
read_on-le n [] = omega arith
read_on-le n (c ∷ cs) = let h = read_on-le (10 * n + (c - 48)) cs in omega arith

-- ---- a printed number is read

with_digit-some : (n c : ℕ) → is_ascii_digit c ≡ true → 1 ≤ 10 * n + (c - 48) → 10 * n + (c - 48) ≤ 120
    → with_digit n c ≡ Some (10 * n + (c - 48))
with_digit-some n c d low high =
    let a : nat_le 1 (10 * n + (c - 48)) ≡ true = grind (arith, nat_tests) in
    let b : nat_le (10 * n + (c - 48)) 120 ≡ true = grind (arith, nat_tests) in
    rw (d, a, b) refl

lever_on-digits : (n : ℕ) (cs : List ℕ) → all_ascii_digits cs ≡ true → 1 ≤ n → read_on n cs ≤ 120
    → lever_on (Some n) cs ≡ Some (read_on n cs)
lever_on-digits n [] d low high = let e : (n == 0) ≡ false = grind (arith, nat_tests) in rw e refl
lever_on-digits n (c ∷ cs) d low high =
    let p = and_parts (is_ascii_digit c) (all_ascii_digits cs) d in
    let le = read_on-le (10 * n + (c - 48)) cs in
    ap (λ (o : Option ℕ). lever_on o cs) (with_digit-some n c p.0 (omega arith) (omega arith))
    ∙ lever_on-digits (10 * n + (c - 48)) cs p.1 (omega arith) high

lever_of-digits : (word : List ℕ) → all_ascii_digits word ≡ true → 48 < get_or word 0 0 → read_on 0 word ≤ 120
    → lever_of word ≡ Some (read_on 0 word)
lever_of-digits [] d first high = absurd (omega arith)
lever_of-digits (c ∷ cs) d first high =
    let p = and_parts (is_ascii_digit c) (all_ascii_digits cs) d in
    let le = read_on-le (10 * 0 + (c - 48)) cs in
    ap (λ (o : Option ℕ). lever_on o cs) (with_digit-some 0 c p.0 (omega arith) (omega arith))
    ∙ lever_on-digits (10 * 0 + (c - 48)) cs p.1 (omega arith) high

-- a lever's number, as it is printed, names that lever
pub lever_of-decimal : (n : ℕ) → IsLever 120 n → lever_of (decimal n) ≡ Some n
lever_of-decimal n is =
    let value : read_on 0 (decimal n) ≡ n = digits_value-decimal own n (omega arith) in
    lever_of-digits (decimal n) (digits_decimal own n (omega arith)) (first_decimal n (omega arith) (omega arith))
    (omega arith) ∙ ap (λ (m : ℕ). Some m) value

-- ---- what is read is a printed number

pub record Longer (n c k : ℕ) : Type 0 where
  pub digit : is_ascii_digit c ≡ true
  pub is : k ≡ 10 * n + (c - 48)
  pub low : 1 ≤ k
  pub high : k ≤ 120

chosen : (b : Bool) (m k : ℕ) → (if b then Some m else None) ≡ Some k → (b ≡ true) × (m ≡ k)
chosen true m k e = (refl, cc)
chosen false m k e = cc

longer : (n c k : ℕ) → with_digit n c ≡ Some k → Longer n c k
longer n c k e =
    let p = chosen (is_ascii_digit c && nat_le 1 (10 * n + (c - 48)) && nat_le (10 * n + (c - 48)) 120)
    (10 * n + (c - 48)) k e in
    let q = and_parts (is_ascii_digit c && nat_le 1 (10 * n + (c - 48))) (nat_le (10 * n + (c - 48)) 120) p.0 in
    let r = and_parts (is_ascii_digit c) (nat_le 1 (10 * n + (c - 48))) q.0 in
    let low : 1 ≤ 10 * n + (c - 48) = grind (arith, nat_tests) in
    let high : 10 * n + (c - 48) ≤ 120 = grind (arith, nat_tests) in
    record { digit = r.0; is = sym p.1; low = omega arith; high = omega arith }

pub record Named (n : ℕ) (cs : List ℕ) (k : ℕ) : Type 0 where
  pub digits : all_ascii_digits cs ≡ true
  pub value : read_on n cs ≡ k
  pub low : 1 ≤ k
  pub high : k ≤ 120

ended : (n k : ℕ) (b : Bool) → (n == 0) ≡ b → (if b then None else Some n) ≡ Some k → (n ≡ k) × (1 ≤ n)
ended n k true is e = cc
ended n k false is e = (cc, grind (arith, nat_tests))

named_step : (n c : ℕ) (cs : List ℕ) (k : ℕ) (o : Option ℕ) → with_digit n c ≡ o
    → ((m : ℕ) → m ≤ 120 → lever_on (Some m) cs ≡ Some k → Named m cs k) → lever_on o cs ≡ Some k → Named n (c ∷ cs) k
named_step n c cs k None is more e = cc
named_step n c cs k (Some m) is more e =
    let l = longer n c m is in
    let h = more m l.high e in
    record {
      digits = and_from (is_ascii_digit c) (all_ascii_digits cs) l.digit h.digits;
      value =
          ap (λ (x : ℕ). read_on x cs) (sym l.is) ∙ h.value;
      low = h.low;
      high = h.high;
    }

named_on : (n : ℕ) (cs : List ℕ) (k : ℕ) → n ≤ 120 → lever_on (Some n) cs ≡ Some k → Named n cs k
named_on n [] k small e =
    let p = ended n k (n == 0) refl e in
    let low = p.1 in
    let is = p.0 in
    record { digits = refl; value = is; low = omega arith; high = omega arith }
named_on n (c ∷ cs) k small e = named_step n c cs k (with_digit n c) refl (λ m low h. named_on m cs k low h) e

-- the first of the digits is no zero
first_digit : (c : ℕ) (cs : List ℕ) (k : ℕ) (o : Option ℕ) → with_digit 0 c ≡ o → lever_on o cs ≡ Some k → 48 < c
first_digit c cs k None is e = cc
first_digit c cs k (Some m) is e = let l = longer 0 c m is in let a = l.is in let b = l.low in omega arith

lever_of-first : (word : List ℕ) (k : ℕ) → lever_of word ≡ Some k → (0 < length word) × (48 < get_or word 0 0)
lever_of-first [] k e = cc
lever_of-first (c ∷ cs) k e = (omega arith, first_digit c cs k (with_digit 0 c) refl e)

-- a word that names a lever is the lever's number as it is printed
pub lever_of-spelled : (word : List ℕ) (n : ℕ) → lever_of word ≡ Some n → IsLever 120 n × (word ≡ decimal n)
lever_of-spelled word n e =
    let named = named_on 0 word n (omega arith) e in
    let first = lever_of-first word n e in
    let some = first.0 in let above = first.1 in let value = named.value in let high = named.high in (
      (named.low, named.high),
      sym (decimal-digits_value own word named.digits some (λ zero. absurd (omega arith)) (omega arith))
          ∙ ap decimal value,
    )
