-- What is in a list, and what is not.
use Rattle.std.proofs.Common.{◌≡◌, ℕ, ◌+◌, ◌<◌, ◌≤◌, Bool, true, false, cond, not, ◌||◌, eqb, ltb, List, [], ◌∷◌, ◌++◌}
use Rattle.std.proofs.Common.{length, map, None, Some, IsTrue, is_some, refl, sym, ap, ◌∙◌, arith, position}
use Rattle.std.specs.List.{find, list_any, position_or_len}
use Rattle.std.proofs.lemmas.Bool.Decides.{nat_tests}
use Rattle.std.proofs.lemmas.List.{map-append}
use Rattle.std.proofs.lemmas.List.Folds.{list_any-append}
use Rattle.rail_text.proofs.PrintedLines.{both}
use Rattle.line_plan.specs.declared.frame.Lever.{Lever}
use Rattle.line_plan.specs.Frames.{are_rising, last_number}

-- an item of a mapped list passes a test exactly where what some item is mapped to does
pub any_map : {A B : Type 0} (p : B → Bool) (f : A → B) (xs : List A)
    → list_any p (map f xs) ≡ list_any (λ x. p (f x)) xs
any_map p f [] = refl
any_map p f (x ∷ xs) = ap (λ (b : Bool). p (f x) || b) (any_map p f xs)

-- an item is found exactly where one passes the test
pub found_any : {A : Type 0} (p : A → Bool) (xs : List A) → is_some (find p xs) ≡ list_any p xs
found_any p [] = refl
found_any {A} p (x ∷ xs) = go (p x) (found_any p xs) where
  go : (b : Bool) → is_some (find p xs) ≡ list_any p xs → is_some (cond b (Some x) (find p xs)) ≡ b || list_any p xs
  go true e = refl
  go false e = e

less_more : (b : Bool) (n m : ℕ) (c : Bool) → ltb n m ≡ c → ltb (cond (not b) (1 + n) 0) (1 + m) ≡ b || c
less_more true n m c e = grind (arith, nat_tests)
less_more false n m c e = let same : ltb (1 + n) (1 + m) ≡ ltb n m = grind (arith, nat_tests) in same ∙ e

-- the place that is found lies within a list exactly where an item of it passes the test
pub position_less : {A : Type 0} (p : A → Bool) (xs : List A) → ltb (position_or_len p xs) (length xs) ≡ list_any p xs
position_less p [] = refl
position_less p (x ∷ xs) =
    let whole : length (x ∷ xs) ≡ 1 + length xs = omega arith in
    rw whole (less_more (p x) (position_or_len p xs) (length xs) (list_any p xs) (position_less p xs))

-- one of those in front, or of those behind
pub any_front : {A : Type 0} (p : A → Bool) (xs ys : List A) → list_any p xs ≡ true → true ≡ list_any p (xs ++ ys)
any_front p xs ys e = sym (list_any-append p xs ys ∙ rw e refl)

pub any_behind : {A : Type 0} (p : A → Bool) (xs ys : List A) (b : Bool) → list_any p xs ≡ false → b ≡ list_any p ys
    → b ≡ list_any p (xs ++ ys)
any_behind p xs ys b e f = f ∙ sym (list_any-append p xs ys ∙ rw e refl)

some_of : {A : Type 0} (b : Bool) (x : A) → is_some (cond b (Some x) None) ≡ b
some_of true x = refl
some_of false x = refl

-- an item has a place exactly where one passes the test
pub position_any : {A : Type 0} (p : A → Bool) (xs : List A) → is_some (position p xs) ≡ list_any p xs
position_any p xs = some_of (ltb (position_or_len p xs) (length xs)) (position_or_len p xs) ∙ position_less p xs

-- the number of an item has a place exactly where an item has the number
pub position_map_any : {A : Type 0} (f : A → ℕ) (p : ℕ → Bool) (xs : List A)
    → is_some (position p (map f xs)) ≡ list_any (λ x. p (f x)) xs
position_map_any f p xs = position_any p (map f xs) ∙ any_map p f xs

-- no number of these is this one
pub absent_map : {A : Type 0} (f : A → ℕ) (n : ℕ) (xs : List A) → is_some (find (λ x. eqb (f x) n) xs) ≡ false
    → list_any (λ k. eqb k n) (map f xs) ≡ false
absent_map f n xs e = any_map (λ k. eqb k n) f xs ∙ sym (found_any (λ x. eqb (f x) n) xs) ∙ e

-- where no item of a list has a number, it isn't among the numbers of the items
pub absent_any : {A : Type 0} (f : A → ℕ) (n : ℕ) (xs : List A) → list_any (λ x. eqb (f x) n) xs ≡ false
    → list_any (λ k. eqb k n) (map f xs) ≡ false
absent_any f n xs e = any_map (λ k. eqb k n) f xs ∙ e

-- ---- rising numbers

less_is : (a b : ℕ) → IsTrue (ltb a b) → a < b
less_is a b h = grind (arith, nat_tests)

is_less : (a b : ℕ) → a < b → IsTrue (ltb a b)
is_less a b h = grind (arith, nat_tests)

last_above : (before : ℕ) (levers : List Lever) → IsTrue (are_rising before levers) → before ≤ last_number before levers
last_above before [] h = omega arith
last_above before (lever ∷ levers) h =
    let b = both (ltb before lever.number) (are_rising lever.number levers) h in
    omega (arith, less_is before lever.number b.0, last_above lever.number levers b.1)

-- a number above the last is none of them
pub rising_absent : (before n : ℕ) (levers : List Lever) → IsTrue (are_rising before levers)
    → last_number before levers < n → list_any (λ k. eqb k n) (map (λ lever. lever.number) levers) ≡ false
rising_absent before n [] h l = refl
rising_absent before n (lever ∷ levers) h l =
    let b = both (ltb before lever.number) (are_rising lever.number levers) h in
    let below = last_above lever.number levers b.1 in
    let other : eqb lever.number n ≡ false = grind (arith, nat_tests) in
    rw (other, rising_absent lever.number n levers b.1 l) refl

-- a lever more, whose number is above the last
pub rising_more : (before : ℕ) (levers : List Lever) (lever : Lever) → IsTrue (are_rising before levers)
    → last_number before levers < lever.number → IsTrue (are_rising before (levers ++ lever ∷ []))
rising_more before [] lever h l = rw (is_less before lever.number l) refl
rising_more before (first ∷ levers) lever h l =
    let b = both (ltb before first.number) (are_rising first.number levers) h in
    rw (b.0, rising_more first.number levers lever b.1 l) refl

pub ruleset any_rules = (any_front, any_behind)

pub ruleset found_rules = (position_map_any, position_any, any_map)

pub ruleset lever_rules = (rising_absent, rising_more, map-append)

pub ruleset signal_rules = (absent_map, absent_any, map-append)
