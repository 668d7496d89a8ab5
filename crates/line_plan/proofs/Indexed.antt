-- How an index of numbers grows.
use Rattle.std.proofs.Common.{◌≡◌, ℕ, ◌+◌, ◌<◌, ◌≤◌, Bool, true, false, cond, eqb, ltb, List, [], ◌∷◌, ◌++◌, length}
use Rattle.std.proofs.Common.{inl, inr, subst, None, Some, refl, sym, ap, ◌∙◌, arith, position, slice_index, slice_set}
use Rattle.std.specs.List.{list_any, position_or_len}
use Rattle.std.proofs.lemmas.Bool.Decides.{eqb_tells, nat_tests}
use Rattle.std.proofs.lemmas.List.{get_or-set_other, get_or-set_same, length_push}
use Rattle.std.proofs.lemmas.List.Folds.{position_or_len_push}
use Rattle.std.proofs.lemmas.List.Sums.{prefix_len-le-length}
use Rattle.line_plan.proofs.Listed.{position_less}
use Rattle.line_plan.specs.Numbers.{AreAlike, IsIndex, counted}

other_place : (at len new all : ℕ) → at ≤ len → all ≡ len + 1 → new ≡ cond (eqb at len) (len + 1) at
    → cond (ltb new all) (Some new) None ≡ cond (ltb at len) (Some at) None
other_place at len new all most more is = elim (eqb_tells at len) [
  | inl here ↦
      let last : new ≡ len + 1 = is ∙ rw here.0 refl in
      let no : ltb new all ≡ false = grind (arith, nat_tests) in
      let none : ltb at len ≡ false = grind (arith, nat_tests) in
      rw (no, none) refl
  | inr away ↦
      let same : new ≡ at = is ∙ rw away.0 refl in
      let yes : ltb at all ≡ true = grind (arith, nat_tests) in
      let some : ltb at len ≡ true = grind (arith, nat_tests) in
      rw (same, yes, some) refl
]

-- what isn't the new number stays where it was
other_stays : (p : ℕ → Bool) (ks : List ℕ) (n : ℕ) → p n ≡ false → position p (ks ++ n ∷ []) ≡ position p ks
other_stays p ks n not = other_place (position_or_len p ks) (length ks) (position_or_len p (ks ++ n ∷ []))
    (length (ks ++ n ∷ [])) (prefix_len-le-length _ ks) (length_push ks n) (position_or_len_push p ks n ∙ rw not refl)

last_place : (at len new all : ℕ) → at ≤ len → ltb at len ≡ false → all ≡ len + 1 → new ≡ cond (eqb at len) (len + 0) at
    → cond (ltb new all) (Some new) None ≡ Some len
last_place at len new all most none more is =
    let last : at ≡ len = grind (arith, nat_tests) in
    let test : eqb at len ≡ true = grind (arith, nat_tests) in
    let here : new ≡ len = is ∙ rw test (omega arith) in
    let yes : ltb len all ≡ true = grind (arith, nat_tests) in
    rw (here, yes) refl

-- a new number stands last
new_last : (p : ℕ → Bool) (ks : List ℕ) (n : ℕ) → list_any p ks ≡ false → p n ≡ true
    → position p (ks ++ n ∷ []) ≡ Some (length ks)
new_last p ks n absent is = last_place (position_or_len p ks) (length ks) (position_or_len p (ks ++ n ∷ []))
    (length (ks ++ n ∷ [])) (prefix_len-le-length _ ks) (position_less p ks ∙ absent) (length_push ks n)
    (position_or_len_push p ks n ∙ rw is refl)

-- the index of one number more
pub index_more : (numbers places wide : List ℕ) (n count : ℕ) → IsIndex numbers places → AreAlike places wide
    → n < length wide → list_any (λ m. eqb m n) numbers ≡ false → count ≡ length numbers + 1
    → IsIndex (numbers ++ n ∷ []) (slice_set wide n count)
index_more numbers places wide n count index alike less absent all at = elim (eqb_tells n at) [
  | inl here ↦
      let test : eqb n n ≡ true = grind (arith, nat_tests) in
      subst (λ (k : ℕ). slice_index (slice_set wide n count) k
      ≡ counted (position (λ m. eqb m k) (numbers ++ n ∷ []))) here.1
      (get_or-set_same wide n count 0 less ∙ all
      ∙ ap counted (sym (new_last (λ m. eqb m n) numbers n absent test)))
  | inr away ↦
      get_or-set_other wide n at count 0 (λ e. away.1 (sym e))
      ∙ (alike at ∙ (index at ∙ ap counted (sym (other_stays (λ m. eqb m at) numbers n away.0))))
]
