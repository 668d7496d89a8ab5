-- The numbers of codes in a table.
use Rattle.std.proofs.Common.{◌≡◌, ◌≢◌, ◌↔◌, ℕ, ◌+◌, ◌-◌, ◌<◌, ◌≤◌, Bool, true, false, cond, ltb, List, [], ◌∷◌, ◌++◌}
use Rattle.std.proofs.Common.{length, get_or, Option, Some, None, refl, sym, ap, ◌∙◌, arith, rules, bytes_eq}
use Rattle.std.specs.Prelude.{position, Contains, IfSome, IsNone}
use Rattle.std.specs.Option.{option_map}
use Rattle.std.specs.List.{AllPairs, position_or_len}
use Rattle.std.proofs.lemmas.Slice.Eq.{bytes_eq-Decides}
use Rattle.std.proofs.lemmas.List.{length-append}
use Rattle.std.proofs.lemmas.List.Folds.{list_all-append}
use Rattle.std.proofs.lemmas.List.Quantifiers.{position-Some, all_pairs_push}
use Rattle.std.proofs.lemmas.List.Sums.{position_or_len_is, fails_before_first}
use Rattle.std.proofs.lemmas.Option.{slice_get_read, slice_get-get_or, slice_get_within, get_or_from_slice_get}
use Rattle.std.proofs.lemmas.Bool.Decides.{nat_tests}
use Rattle.bell_codes.specs.Codes.{is_code}
use Rattle.bell_codes.specs.Table.{code_number, code_at, opening_codes, IsNumber, IsCodeTable}

not_true : (b : Bool) → (b ≡ true → ⊥) → b ≡ false
not_true true h = absurd (h refl)
not_true false h = refl

true_false : (b : Bool) → b ≡ true → b ≡ false → ⊥
true_false b h k = cc

-- an element in its range is the same whatever stands in for one past the end
same_at : (codes : List (List ℕ)) (k : ℕ) (d e : List ℕ) → k < length codes → get_or codes k d ≡ get_or codes k e
same_at codes k d e h =
    let one = slice_get-get_or codes k d h in
    let other = slice_get-get_or codes k e h in
    same _ _ (sym one ∙ other) where
      same : (x y : List ℕ) → Some x ≡ Some y → x ≡ y
      same x y h = cc

record Place (codes : List (List ℕ)) (code : List ℕ) (number : ℕ) : Type 0 where
  place : ℕ
  here : position (bytes_eq code) codes ≡ Some place
  next : place + 1 ≡ number

place_of : (codes : List (List ℕ)) (code : List ℕ) (number : ℕ) (o : Option ℕ) → position (bytes_eq code) codes ≡ o
    → option_map (λ place. place + 1) o ≡ Some number → Place codes code number
place_of codes code number None e h = absurd cc
place_of codes code number (Some k) e h = record { place = k; here = e; next = cc }

-- a number found is the code's
pub code_number-is : (codes : List (List ℕ)) (code : List ℕ) (number : ℕ) → code_number codes code ≡ Some number
    → IsNumber codes code number
unfolding code_number
code_number-is codes code number h =
    let p = place_of codes code number (position (bytes_eq code) codes) refl h in
    let at = position-Some (bytes_eq code) codes p.place code p.here in
    let is : code ≡ get_or codes p.place code = (bytes_eq-Decides code (get_or codes p.place code)).0 at.1 in
    let one : number - 1 ≡ p.place = omega (arith, p.next) in
    record {
      low = omega (arith, p.next);
      high = omega (arith, at.0, p.next);
      here = rw one (slice_get_read codes (length codes) p.place code refl at.0 is);
    }

-- where the codes differ, a code has no other number
pub code_number-at : (codes : List (List ℕ)) (code : List ℕ) (number : ℕ) → AllPairs (λ one other. one ≢ other) codes
    → IsNumber codes code number → code_number codes code ≡ Some number
unfolding code_number
code_number-at codes code number distinct h =
    let k = number - 1 in
    let within : k < length codes = slice_get_within codes k code h.here in
    let is : get_or codes k code ≡ code = get_or_from_slice_get codes k code code h.here in
    let passes : bytes_eq code (get_or codes k code) ≡ true =
    (bytes_eq-Decides code (get_or codes k code)).1 (sym is) in
    let first : position_or_len (bytes_eq code) codes ≡ k =
    position_or_len_is (bytes_eq code) codes k code (omega arith)
    (λ j below. not_true (bytes_eq code (get_or codes j code))
    (λ same. distinct j k code below within (sym ((bytes_eq-Decides code (get_or codes j code)).0 same) ∙ sym is)))
    (λ _. passes) in
    let here : ltb k (length codes) ≡ true = grind (arith, nat_tests) in
    let next : k + 1 ≡ number = omega (arith, h.low) in
    rw (first, here) (ap (λ n. Some n) next)

none_is : (b : Bool) (n : ℕ) → option_map (λ place. place + 1) (cond b (Some n) None) ≡ None → b ≡ false
none_is true n h = absurd cc
none_is false n h = refl

pub code_number-none : (codes : List (List ℕ)) (code : List ℕ) → code_number codes code ≡ None → Contains codes code → ⊥
unfolding code_number
code_number-none codes code h has =
    let past : ltb (position_or_len (bytes_eq code) codes) (length codes) ≡ false =
    none_is (ltb (position_or_len (bytes_eq code) codes) (length codes)) (position_or_len (bytes_eq code) codes)
    h in
    let below : has.0 < position_or_len (bytes_eq code) codes = grind (arith, nat_tests, past, has.1) in
    true_false _ ((bytes_eq-Decides code (get_or codes has.0 code)).1 (sym has.2))
    (fails_before_first (bytes_eq code) codes has.0 code below)

pub number_found : (codes : List (List ℕ)) (code : List ℕ) (r : Option ℕ) → r ≡ code_number codes code
    → IfSome r (λ number. IsNumber codes code number)
number_found codes code None e = tt
number_found codes code (Some number) e = code_number-is codes code number (sym e)

-- a code has no number exactly where the table doesn't contain it
pub number_absent : (codes : List (List ℕ)) (code : List ℕ) (r : Option ℕ) → r ≡ code_number codes code
    → IsNone r ↔ ¬ Contains codes code
number_absent codes code None e = (λ _. code_number-none codes code (sym e), λ _. refl)
number_absent codes code (Some number) e =
    let n = code_number-is codes code number (sym e) in
    let within : number - 1 < length codes = slice_get_within codes (number - 1) code n.here in (
      λ none. absurd cc,
      λ absent. absurd (absent (number - 1, within, get_or_from_slice_get codes (number - 1) code code n.here)),
    )

-- the code under a number, and its number
pub code_at-number : (codes : List (List ℕ)) (code : List ℕ) (number : ℕ) → code_number codes code ≡ Some number
    → code_at codes number ≡ code
unfolding code_at
code_at-number codes code number h =
    get_or_from_slice_get codes (number - 1) code [] (code_number-is codes code number h).here

-- the code under a number of the table has that number
pub code_number-code_at : (codes : List (List ℕ)) (number : ℕ) → IsCodeTable codes → 1 ≤ number → number ≤ length codes
    → code_number codes (code_at codes number) ≡ Some number
unfolding code_at
code_number-code_at codes number table low high =
    let within : number - 1 < length codes = omega arith in
    code_number-at codes (get_or codes (number - 1) []) number table.distinct
    (record { low = low; high = high; here = slice_get-get_or codes (number - 1) [] within })

-- the opening table is one
pub opening_is_table : IsCodeTable opening_codes
unfolding opening_codes is_code
opening_is_table = search rules

-- a table with one more code
pub added : (codes : List (List ℕ)) (code : List ℕ) → IsCodeTable codes → is_code code ≡ true
    → code_number codes code ≡ None → length codes < 200 → IsCodeTable (codes ++ code ∷ [])
added codes code table valid new room = record {
  most = omega (arith, length-append codes (code ∷ []));
  valid = rw (list_all-append, table.valid, valid) refl;
  distinct =
      all_pairs_push (λ one other. one ≢ other) codes code table.distinct
      (λ k d within same. code_number-none codes code new (k, within, same_at codes k code d within ∙ same));
}

pub ruleset number_rules = (number_found, number_absent)
