-- The names of the made line's trains.
use Rattle.std.proofs.Common.{◌≡◌, ℕ, ◌^◌, ◌<◌, ◌≤◌, zero, suc, Bool, true, false, leb, List, [], ◌∷◌, length, Some}
use Rattle.std.proofs.Common.{refl, sym, ap, ◌∙◌, arith, decimal, bytes_eq}
use Rattle.std.specs.List.{list_all, list_any}
use Rattle.std.specs.Str.{all_ascii_digits}
use Rattle.std.specs.Char.{is_ascii_digit}
use Rattle.std.proofs.lemmas.Bool.Decides.{nat_tests}
use Rattle.std.proofs.lemmas.Fmt.{digits_decimal}
use Rattle.std.proofs.lemmas.List.{length-append, map-append}
use Rattle.std.proofs.lemmas.List.Folds.{list_any-append}
use Rattle.std.proofs.lemmas.Slice.Eq.{bytes_eq-Decides}
use Rattle.rail_text.specs.Number.{number_of}
use Rattle.rail_text.specs.Words.{is_name, is_name_byte}
use Rattle.rail_text.proofs.NumberLemmas.{own, number_of-decimal}
use Rattle.rail_text.proofs.PrintedLines.{both}
use Rattle.rail_text.proofs.PrintedWords.{length-decimal_word}
use Rattle.line_plan.specs.Plans.{names_of_trains}
use Rattle.line_maker.proofs.MadeLine.{name_of, made_train, made_trains}

digit_byte : (d : ℕ) → is_ascii_digit d ≡ true → is_name_byte d ≡ true
digit_byte d h = grind (arith, nat_tests)

digits_all : (ds : List ℕ) → all_ascii_digits ds ≡ true → list_all is_name_byte ds ≡ true
digits_all [] h = refl
digits_all (d ∷ ds) h = let e = both (is_ascii_digit d) (all_ascii_digits ds) h in let b : is_name_byte d ≡ true =
    digit_byte d e.0 in rw (b, digits_all ds e.1) refl

short : (n : ℕ) → n ≤ 16 → leb n 16 ≡ true
short n h = grind (arith, nat_tests)

-- a train's name is one
pub name_is : (i : ℕ) → i < 10 ^ 10 → is_name (name_of i) ≡ true
name_is i small =
    let bytes : list_all is_name_byte (decimal i) ≡ true =
    digits_all (decimal i) (digits_decimal own i (omega arith)) in
    let few : leb (length (name_of i)) 16 ≡ true =
    short (length (name_of i)) (omega (arith, length-decimal_word i small)) in
    rw (few, bytes) refl

same_some : (i j : ℕ) → Some i ≡ Some j → i ≡ j
same_some i j e = cc

same_rest : (x : ℕ) (xs ys : List ℕ) → x ∷ xs ≡ x ∷ ys → xs ≡ ys
same_rest x xs ys e = cc

-- trains with one name have one number
same_number : (i j : ℕ) → i < 10 ^ 10 → j < 10 ^ 10 → name_of i ≡ name_of j → i ≡ j
same_number i j a b e =
    same_some i j
    (sym (number_of-decimal i a) ∙ ap number_of (same_rest 116 (decimal i) (decimal j) e) ∙ number_of-decimal j b)

names_differ : (i j : ℕ) → i < j → j < 10 ^ 10 → bytes_eq (name_of j) (name_of i) ≡ false
names_differ i j h small = go (bytes_eq (name_of j) (name_of i)) refl where
  go : (t : Bool) → bytes_eq (name_of j) (name_of i) ≡ t → t ≡ false
  go true f =
      absurd (let same =
      same_number j i small (omega arith) ((bytes_eq-Decides (name_of j) (name_of i)).0 f) in omega (arith, same))
  go false f = refl

-- a later train has a new name
pub name_new : (j n : ℕ) → n < j → j < 10 ^ 10
    → list_any (bytes_eq (name_of j)) (names_of_trains (made_trains n)) ≡ false
unfolding made_trains
name_new j zero h small = refl
name_new j (suc n) h small =
    let own_name : bytes_eq (name_of j) (name_of (suc n)) ≡ false = names_differ (suc n) j h small in
    let before : list_any (bytes_eq (name_of j)) (names_of_trains (made_trains n)) ≡ false =
    name_new j n (omega arith) small in
    rw (map-append, list_any-append, before, own_name) refl

-- trains 1 to n are n trains
pub trains_count : (n : ℕ) → length (made_trains n) ≡ n
unfolding made_trains
trains_count zero = refl
trains_count (suc n) = omega (arith, trains_count n, length-append (made_trains n) (made_train (suc n) ∷ []))

pub ruleset name_rules = (name_new, trains_count)
