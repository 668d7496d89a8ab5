-- A thing in the midst of a list.
use Rattle.std.proofs.Common.{◌≡◌, ℕ, ◌<◌, ◌≤◌, Bool, true, false, cond, not, ◌||◌, eqb, ltb, List, [], ◌∷◌, ◌++◌}
use Rattle.std.proofs.Common.{length, map, filter, Some, refl, sym, ap, ◌∙◌, arith, bytes_eq}
use Rattle.std.specs.Prelude.{All}
use Rattle.std.specs.List.{find, list_any, list_all}
use Rattle.std.proofs.lemmas.Bool.Decides.{nat_tests}
use Rattle.std.proofs.lemmas.List.{length-append, append-nil}
use Rattle.std.proofs.lemmas.List.Elements.{All-head, All-tail}
use Rattle.rail_text.specs.Names.{are_new}
use Rattle.rail_text.proofs.PrintedLines.{both, not_true}
use Rattle.locking_table.specs.Sound.{all_differ}
use Rattle.line_plan.specs.declared.frame.Lever.{Lever}
use Rattle.line_plan.specs.Frames.{last_number, are_rising}
use Rattle.line_plan.proofs.Listed.{any_map}

-- what holds of each item of a list holds of one in its midst
pub all_at : {A : Type 0} (P : A → Type 0) (front rest : List A) (x : A) → All P (front ++ x ∷ rest) → P x
all_at P [] rest x h = All-head P x rest h
all_at P (y ∷ front) rest x h = all_at P front rest x (All-tail P y (front ++ x ∷ rest) h)

-- where all items of a list pass a test, one in its midst does
pub test_at : {A : Type 0} (p : A → Bool) (front rest : List A) (x : A) → list_all p (front ++ x ∷ rest) ≡ true
    → p x ≡ true
test_at p [] rest x h = (both (p x) (list_all p rest) h).0
test_at p (y ∷ front) rest x h = test_at p front rest x (both (p y) (list_all p (front ++ x ∷ rest)) h).1

-- where no test of two passes, neither the one nor the other does
pub or_false : (a b : Bool) → a || b ≡ false → (a ≡ false) × (b ≡ false)
or_false true b e = absurd cc
or_false false b e = (refl, e)

-- where no item of a list passes a test, one in its midst doesn't
pub none_at : {A : Type 0} (p : A → Bool) (front rest : List A) (x : A) → list_any p (front ++ x ∷ rest) ≡ false
    → p x ≡ false
none_at p [] rest x h = (or_false (p x) (list_any p rest) h).0
none_at p (y ∷ front) rest x h = none_at p front rest x (or_false (p y) (list_any p (front ++ x ∷ rest)) h).1

-- what stands before an item of a list is shorter than the list
pub shorter : {A : Type 0} (front rest : List A) (x : A) → length front < length (front ++ x ∷ rest)
shorter front rest x = omega (arith, length-append front (x ∷ rest))

new_from : (before front rest : List (List ℕ)) (x : List ℕ) → are_new before (front ++ x ∷ rest) ≡ true
    → list_any (bytes_eq x) (before ++ front) ≡ false
new_from before [] rest x h =
    ap (list_any (bytes_eq x)) (append-nil before)
    ∙ not_true _ (both (not (list_any (bytes_eq x) before)) (are_new (before ++ x ∷ []) rest) h).0
new_from before (y ∷ front) rest x h =
    ap (list_any (bytes_eq x)) (assoc before)
    ∙ new_from (before ++ y ∷ []) front rest x
    (both (not (list_any (bytes_eq y) before)) (are_new (before ++ y ∷ []) (front ++ x ∷ rest)) h).1 where
      assoc : (b : List (List ℕ)) → b ++ y ∷ front ≡ (b ++ y ∷ []) ++ front
      assoc [] = refl
      assoc (z ∷ b) = ap (λ (l : List (List ℕ)). z ∷ l) (assoc b)

-- no name in front is this one
pub new_at : (front rest : List (List ℕ)) (x : List ℕ) → are_new [] (front ++ x ∷ rest) ≡ true
    → list_any (bytes_eq x) front ≡ false
new_at front rest x h = new_from [] front rest x h

turn : (a b : ℕ) → eqb a b ≡ false → eqb b a ≡ false
turn a b e = grind (arith, nat_tests)

-- no number in front is this one
pub differs_at : {A : Type 0} (f : A → ℕ) (front rest : List A) (x : A) → all_differ (map f (front ++ x ∷ rest)) ≡ true
    → list_any (λ y. eqb (f y) (f x)) front ≡ false
differs_at f [] rest x h = refl
differs_at f (y ∷ front) rest x h =
    let b = both (not (list_any (λ m. eqb m (f y)) (map f (front ++ x ∷ rest))))
    (all_differ (map f (front ++ x ∷ rest))) h in
    let none : list_any (λ z. eqb (f z) (f y)) (front ++ x ∷ rest) ≡ false =
    sym (any_map (λ m. eqb m (f y)) f (front ++ x ∷ rest)) ∙ not_true _ b.0 in
    rw (turn (f x) (f y) (none_at (λ z. eqb (f z) (f y)) front rest x none), differs_at f front rest x b.1) refl

less_is : (a b : ℕ) → ltb a b ≡ true → a < b
less_is a b h = grind (arith, nat_tests)

last_at_most : (before : ℕ) (levers : List Lever) → are_rising before levers ≡ true → before ≤ last_number before levers
last_at_most before [] h = omega arith
last_at_most before (lever ∷ levers) h =
    let b = both (ltb before lever.number) (are_rising lever.number levers) h in
    omega (arith, less_is before lever.number b.0, last_at_most lever.number levers b.1)

-- a lever's number is above those in front, and at most the last
pub rises_at : (before : ℕ) (front rest : List Lever) (x : Lever) → are_rising before (front ++ x ∷ rest) ≡ true
    → (last_number before front < x.number) × (x.number ≤ last_number before (front ++ x ∷ rest))
rises_at before [] rest x h =
    let b = both (ltb before x.number) (are_rising x.number rest) h in
    (less_is before x.number b.0, last_at_most x.number rest b.1)
rises_at before (y ∷ front) rest x h =
    rises_at y.number front rest x (both (ltb before y.number) (are_rising y.number (front ++ x ∷ rest)) h).1

-- a lever that is found has the number, which lies between those of the frame
pub found_within : (before n : ℕ) (levers : List Lever) (lever : Lever) → are_rising before levers ≡ true
    → find (λ l. eqb l.number n) levers ≡ Some lever
    → (before < n) × (n ≤ last_number before levers) × (lever.number ≡ n)
found_within before n [] lever h e = absurd cc
found_within before n (y ∷ levers) lever h e =
    let b = both (ltb before y.number) (are_rising y.number levers) h in
    go (eqb y.number n) refl (less_is before y.number b.0) (last_at_most y.number levers b.1)
    (found_within y.number n levers lever b.1) e where
      go : (t : Bool) → eqb y.number n ≡ t → before < y.number → y.number ≤ last_number y.number levers
          → (find (λ l. eqb l.number n) levers ≡ Some lever
          → (y.number < n) × (n ≤ last_number y.number levers) × (lever.number ≡ n))
          → cond t (Some y) (find (λ l. eqb l.number n) levers) ≡ Some lever
          → (before < n) × (n ≤ last_number y.number levers) × (lever.number ≡ n)
      go true t low high rest e =
          let same : y ≡ lever = cc in
          let is : y.number ≡ n = grind (arith, nat_tests) in
          (omega (arith, low, is), omega (arith, high, is), ap (λ (l : Lever). l.number) (sym same) ∙ is)
      go false t low high rest e = let r = rest e in (omega (arith, low, r.0), r.1, r.2)

some_pass : {A : Type 0} (p : A → Bool) (front rest : List A) (x : A) → p x ≡ true
    → 1 ≤ length (filter p (front ++ x ∷ rest))
some_pass p [] rest x t = rw t (omega arith)
some_pass {A} p (z ∷ zs) rest x t = keep (p z) (some_pass p zs rest x t) where
  keep : (b : Bool) → 1 ≤ length (filter p (zs ++ x ∷ rest))
      → 1 ≤ length (cond b (z ∷ filter p (zs ++ x ∷ rest)) (filter p (zs ++ x ∷ rest)))
  keep true h = omega arith
  keep false h = h

-- where at most one passes the test and one does, none in front does
pub one_at : {A : Type 0} (p : A → Bool) (front rest : List A) (x : A) → length (filter p (front ++ x ∷ rest)) ≤ 1
    → p x ≡ true → list_any p front ≡ false
one_at p [] rest x h t = refl
one_at {A} p (y ∷ front) rest x h t = go (p y) (some_pass p front rest x t) (λ few. one_at p front rest x few t) h where
  go : (b : Bool) → 1 ≤ length (filter p (front ++ x ∷ rest))
      → (length (filter p (front ++ x ∷ rest)) ≤ 1 → list_any p front ≡ false)
      → length (cond b (y ∷ filter p (front ++ x ∷ rest)) (filter p (front ++ x ∷ rest))) ≤ 1
      → b || list_any p front ≡ false
  go true some rest h = absurd (omega (arith, h, some))
  go false some rest h = rest h

pub ruleset middle_rules = (all_at, test_at, new_at, differs_at, rises_at, found_within, one_at, shorter)
