-- Names of which none stands twice.
use Rattle.std.proofs.Common.{◌≡◌, ℕ, zero, suc, ◌^◌, ◌<◌, Bool, true, false, not, ◌&&◌, ◌||◌, List, [], ◌∷◌, ◌++◌}
use Rattle.std.proofs.Common.{length, position, slice_get, Some, bytes_eq, refl, sym, ap, ◌∙◌, append_assoc, arith}
use Rattle.std.specs.List.{list_any, position_or_len}
use Rattle.std.proofs.lemmas.List.{append-nil, length-append}
use Rattle.std.proofs.lemmas.List.Folds.{list_any-append}
use Rattle.std.proofs.lemmas.Option.{slice_get_within, slice_get-get_or}
use Rattle.std.proofs.lemmas.List.Quantifiers.{position-Some}
use Rattle.std.proofs.lemmas.Slice.Eq.{bytes_eq-Decides}
use Rattle.std.proofs.lemmas.Bool.{lt-ltb}
use Rattle.rail_text.specs.Names.{are_new, AreNumbered}
use Rattle.rail_text.proofs.PrintedLines.{both, not_true}

pub bytes_eq_refl : (name : List ℕ) → bytes_eq name name ≡ true
bytes_eq_refl name = (bytes_eq-Decides name name).1 refl

or_false : (a b : Bool) → a || b ≡ false → (a ≡ false) × (b ≡ false)
or_false true b e = absurd cc
or_false false b e = (refl, e)

and_true : (a : Bool) → a && true ≡ a
and_true true = refl
and_true false = refl

and_assoc : (a b c : Bool) → a && (b && c) ≡ (a && b) && c
and_assoc true b c = refl
and_assoc false b c = refl

-- one name more
pub are_new-append : (front names : List (List ℕ)) (name : List ℕ)
    → are_new front (names ++ name ∷ []) ≡ are_new front names && not (list_any (bytes_eq name) (front ++ names))
are_new-append front [] name = rw append-nil (and_true (not (list_any (bytes_eq name) front)))
are_new-append front (first ∷ names) name =
    ap (λ (b : Bool). not (list_any (bytes_eq first) front) && b) (are_new-append (front ++ first ∷ []) names name)
    ∙ and_assoc (not (list_any (bytes_eq first) front)) (are_new (front ++ first ∷ []) names)
    (not (list_any (bytes_eq name) ((front ++ first ∷ []) ++ names)))
    ∙ ap (λ (all : List (List ℕ)). (not (list_any (bytes_eq first) front) && are_new (front ++ first ∷ []) names)
    && not (list_any (bytes_eq name) all)) (append_assoc front (first ∷ []) names)

-- where no name stands twice, none does once a name is added that is not there
pub distinct-append : (names : List (List ℕ)) (name : List ℕ) → are_new [] names ≡ true
    → list_any (bytes_eq name) names ≡ false → are_new [] (names ++ name ∷ []) ≡ true
distinct-append names name distinct absent = are_new-append [] names name ∙ rw (distinct, absent) refl

-- a list of fewer than 2^32 names of which none stands twice stays one when a name is added that is not there
pub numbered-append : (names : List (List ℕ)) (name : List ℕ) → AreNumbered names
    → list_any (bytes_eq name) names ≡ false → length names < 2 ^ 32 → AreNumbered (names ++ name ∷ [])
numbered-append names name old absent few = record {
  distinct = distinct-append names name old.distinct absent;
  few = omega (arith, length-append names (name ∷ []));
}

-- a name of the list is not in front
new_in_front : (front names : List (List ℕ)) (i : ℕ) (name : List ℕ) → are_new front names ≡ true
    → slice_get names i ≡ Some name → list_any (bytes_eq name) front ≡ false
new_in_front front [] i name new e = absurd cc
new_in_front front (first ∷ names) zero name new e =
    let is : first ≡ name = cc in
    rw (← is) (not_true _ (both _ _ new).0)
new_in_front front (first ∷ names) (suc i) name new e =
    let behind : list_any (bytes_eq name) (front ++ first ∷ []) ≡ false =
    new_in_front (front ++ first ∷ []) names i name (both _ _ new).1 e in
    (or_false (list_any (bytes_eq name) front) (list_any (bytes_eq name) (first ∷ []))
    (sym (list_any-append (bytes_eq name) front (first ∷ [])) ∙ behind)).0

differs : (front : List (List ℕ)) (first name : List ℕ) → list_any (bytes_eq name) (front ++ first ∷ []) ≡ false
    → bytes_eq name first ≡ false
differs front first name behind =
    let last : list_any (bytes_eq name) (first ∷ []) ≡ false =
    (or_false (list_any (bytes_eq name) front) (list_any (bytes_eq name) (first ∷ []))
    (sym (list_any-append (bytes_eq name) front (first ∷ [])) ∙ behind)).1 in
    (or_false (bytes_eq name first) false last).0

-- a name is first found at its own number
first_at : (front names : List (List ℕ)) (i : ℕ) (name : List ℕ) → are_new front names ≡ true
    → slice_get names i ≡ Some name → position_or_len (bytes_eq name) names ≡ i
first_at front [] i name new e = absurd cc
first_at front (first ∷ names) zero name new e =
    let is : first ≡ name = cc in
    let here : bytes_eq name first ≡ true = rw is (bytes_eq_refl name) in
    rw here refl
first_at front (first ∷ names) (suc i) name new e =
    let later : are_new (front ++ first ∷ []) names ≡ true =
    (both (not (list_any (bytes_eq first) front)) (are_new (front ++ first ∷ []) names) new).1 in
    let other : bytes_eq name first ≡ false =
    differs front first name (new_in_front (front ++ first ∷ []) names i name later e) in
    let there : position_or_len (bytes_eq name) names ≡ i = first_at (front ++ first ∷ []) names i name later e in
    rw (other, there) (omega arith)

-- where no name stands twice, each is found at its own place
pub position-distinct : (names : List (List ℕ)) (i : ℕ) (name : List ℕ) → are_new [] names ≡ true
    → slice_get names i ≡ Some name → position (bytes_eq name) names ≡ Some i
position-distinct names i name distinct e =
    let first : position_or_len (bytes_eq name) names ≡ i = first_at [] names i name distinct e in
    let within : i < length names = slice_get_within names i name e in
    rw (first, lt-ltb i (length names) within) refl

-- what is found is the name
pub position-found : (names : List (List ℕ)) (i : ℕ) (name : List ℕ) → position (bytes_eq name) names ≡ Some i
    → slice_get names i ≡ Some name
position-found names i name e =
    let at = position-Some (bytes_eq name) names i name e in
    let same = (bytes_eq-Decides name _).0 at.1 in
    slice_get-get_or names i name at.0 ∙ ap Some (sym same)

pub ruleset distinct_rules = (distinct-append, position-distinct, position-found)
