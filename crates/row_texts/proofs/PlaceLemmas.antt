-- The places of keys, filed one after another.
use Rattle.std.proofs.Common.{◌≡◌, ℕ, zero, suc, ◌+◌, ◌<◌, ◌≤◌, List, [], ◌∷◌, ◌++◌, length, take, Bool, true, false}
use Rattle.std.proofs.Common.{◌==◌, if◌then◌else◌, inl, inr, refl, sym, ap, ◌∙◌, subst, arith, append-nil}
use Rattle.std.specs.Prelude.{All, slice_index_or, slice_set}
use Rattle.std.proofs.lemmas.Bool.Decides.{eqb_tells}
use Rattle.std.proofs.lemmas.List.{get_or-set_other, get_or-set_same, length_push, length-set, length-take-le, take_more}
use Rattle.std.proofs.lemmas.List.Elements.{All-nil, All-cons}
use Rattle.row_texts.specs.Places.{AreFiled, IsFiled, once, places_from, places_of, AreEmpty}

-- ---- no places

pub nothing_pushed : (lists : List (List ℕ)) (key : ℕ) → ((k : ℕ) → slice_index_or lists k [] ≡ [])
    → slice_index_or (lists ++ [] ∷ []) key [] ≡ []
nothing_pushed [] zero none = refl
nothing_pushed [] (suc key) none = refl
nothing_pushed (xs ∷ lists) zero none = none zero
nothing_pushed (xs ∷ lists) (suc key) none = nothing_pushed lists key (λ k. none (suc k))

pub empty_more : (count : ℕ) (lists : List (List ℕ)) → AreEmpty count lists → AreEmpty (count + 1) (lists ++ [] ∷ [])
empty_more count lists are = record {
  long = length_push lists [] ∙ ap (λ (n : ℕ). n + 1) are.long;
  each = λ key. nothing_pushed lists key are.each;
}

-- ---- one place more

pub filed_at : (lists new : List (List ℕ)) (key place at : ℕ) → key < length lists
    → new ≡ slice_set lists key (slice_index_or lists key [] ++ place ∷ [])
    → slice_index_or new at [] ≡ slice_index_or lists at [] ++ once (key == at) place
filed_at lists new key place at less is = elim (eqb_tells key at) [
  | inl here ↦
      let test = here.0 in
      let same : slice_index_or new at [] ≡ slice_index_or lists at [] ++ place ∷ [] =
      ap (λ (l : List (List ℕ)). slice_index_or l at []) is
      ∙ subst (λ (n : ℕ). slice_index_or (slice_set lists key (slice_index_or lists key [] ++ place ∷ [])) n []
      ≡ slice_index_or lists n [] ++ place ∷ []) here.1
      (get_or-set_same lists key (slice_index_or lists key [] ++ place ∷ []) [] less) in
      same ∙ (rw test refl)
  | inr away ↦
      let test = away.0 in
      let same : slice_index_or new at [] ≡ slice_index_or lists at [] =
      ap (λ (l : List (List ℕ)). slice_index_or l at []) is
      ∙ get_or-set_other lists key at (slice_index_or lists key [] ++ place ∷ []) [] (λ e. away.1 (sym e)) in
      same ∙ (rw test (sym (append-nil (slice_index_or lists at []))))
]

pub filed_is : (lists new : List (List ℕ)) (key place : ℕ) → key < length lists
    → new ≡ slice_set lists key (slice_index_or lists key [] ++ place ∷ []) → IsFiled lists key place new
filed_is lists new key place less is = record {
  long = ap length is ∙ length-set lists key (slice_index_or lists key [] ++ place ∷ []);
  each = λ at there. filed_at lists new key place at less is;
}

not_there : (lists : List (List ℕ)) (key place at : ℕ) → length lists ≤ key → at < length lists
    → slice_index_or lists at [] ≡ slice_index_or lists at [] ++ once (key == at) place
not_there lists key place at past there = elim (eqb_tells key at) [
  | inl here ↦ let same = here.1 in absurd (omega (arith, same))
  | inr away ↦ let test = away.0 in rw test (sym (append-nil (slice_index_or lists at [])))
]

-- where no list is of the key, all stay
pub filed_none : (lists : List (List ℕ)) (key place : ℕ) → length lists ≤ key → IsFiled lists key place lists
filed_none lists key place past = record {
  long = refl;
  each = λ at there. not_there lists key place at past there;
}

front_step : (t : Bool) (from : ℕ) (a b tail : List ℕ) → a ≡ b ++ tail
    → (if t then from ∷ a else a) ≡ (if t then from ∷ b else b) ++ tail
front_step true from a b tail h = ap (λ (l : List ℕ). from ∷ l) h
front_step false from a b tail h = h

last_one : (t : Bool) (from at : ℕ) → from ≡ at → (if t then from ∷ [] else []) ≡ [] ++ once t at
last_one true from at h = rw h refl
last_one false from at h = refl

-- the places of a key among keys and one more
pub places_more : (from at key : ℕ) (xs : List ℕ) (x : ℕ) → from + length xs ≡ at
    → places_from from key (xs ++ x ∷ []) ≡ places_from from key xs ++ once (x == key) at
places_more from at key [] x h = last_one (x == key) from at (omega arith)
places_more from at key (y ∷ ys) x h =
    front_step (y == key) from (places_from (from + 1) key (ys ++ x ∷ [])) (places_from (from + 1) key ys)
    (once (x == key) at) (places_more (from + 1) at key ys x (omega arith))

-- the lists with one place more are those of one key more
pub filed_more : (most : ℕ) (keys : List ℕ) (lists new : List (List ℕ)) (key place : ℕ) → place ≡ length keys
    → AreFiled most keys lists → IsFiled lists key place new → AreFiled most (keys ++ key ∷ []) new
filed_more most keys lists new key place is filed more =
    let long = filed.long in
    record {
      long = more.long ∙ long;
      each = λ at small.
          more.each at (omega (arith, long, small))
          ∙ (ap (λ (l : List ℕ). l ++ once (key == at) place) (filed.each at small)
          ∙ sym (places_more 0 place at keys key (omega arith)));
    }

-- ---- places are within the list

abbrev IsBelow : ℕ → ℕ → Type 0
IsBelow limit n = n < limit

within_one : (from limit : ℕ) (named : Bool) (ns : List ℕ) → from < limit → All (IsBelow limit) ns
    → All (IsBelow limit) (if named then from ∷ ns else ns)
within_one from limit true ns h all = All-cons (IsBelow limit) from ns h all
within_one from limit false ns h all = all

places_within : (from limit key : ℕ) (xs : List ℕ) → from + length xs ≤ limit
    → All (IsBelow limit) (places_from from key xs)
places_within from limit key [] h = All-nil (IsBelow limit)
places_within from limit key (x ∷ xs) h =
    within_one from limit (x == key) (places_from (from + 1) key xs) (omega arith)
    (places_within (from + 1) limit key xs (omega arith))

pub within : (key : ℕ) (keys : List ℕ) → All (λ n. n < length keys) (places_of key keys)
within key keys = places_within 0 (length keys) key keys (omega arith)

-- ---- at the beginning

-- lists without a place are those of no key
pub filed_start : (most : ℕ) (lists : List (List ℕ)) → AreEmpty (most + 1) lists → AreFiled most [] lists
filed_start most lists are = record { long = are.long; each = λ key small. are.each key }

-- the first keys, and one more
pub filed_next : (most : ℕ) (keys : List ℕ) (lists new : List (List ℕ)) (key place d : ℕ) → place < length keys
    → key ≡ slice_index_or keys place d → AreFiled most (take place keys) lists → IsFiled lists key place new
    → AreFiled most (take (place + 1) keys) new
filed_next most keys lists new key place d less is filed more =
    let long : place ≡ length (take place keys) = sym (length-take-le place keys (omega arith)) in
    subst (λ (ks : List ℕ). AreFiled most ks new)
    (sym (take_more keys place d less ∙ ap (λ (k : ℕ). take place keys ++ k ∷ []) (sym is)))
    (filed_more most (take place keys) lists new key place long filed more)
