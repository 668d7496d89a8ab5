-- What is found by its number.
use Rattle.std.proofs.Common.{◌≡◌, ℕ, zero, suc, ◌+◌, ◌-◌, Bool, true, false, cond, not, ltb, List, [], ◌∷◌}
use Rattle.std.proofs.Common.{length, map, get_or, None, Some, refl, sym, ap, ◌∙◌, arith, position, slice_get}
use Rattle.std.specs.List.{find, position_or_len}
use Rattle.std.proofs.lemmas.List.{length-map}
use Rattle.std.proofs.lemmas.Bool.Decides.{Decides-ltb, not_from_Decides}
use Rattle.std.proofs.lemmas.List.Folds.{find_at}
use Rattle.std.proofs.lemmas.Option.{slice_get-get_or, slice_get_past}
use Rattle.line_plan.specs.declared.frame.Lever.{Lever}
use Rattle.line_plan.specs.Frames.{last_number, frame_size}

position_or_len-map : {A : Type 0} (f : A → ℕ) (p : ℕ → Bool) (xs : List A)
    → position_or_len p (map f xs) ≡ position_or_len (λ x. p (f x)) xs
position_or_len-map f p [] = refl
position_or_len-map f p (x ∷ xs) = ap (λ (n : ℕ). cond (not (p (f x))) (1 + n) 0) (position_or_len-map f p xs)

-- where the numbers' place lies
place_is : {A : Type 0} (f : A → ℕ) (p : ℕ → Bool) (xs : List A) → position p (map f xs) ≡ position (λ x. p (f x)) xs
place_is f p xs = rw (position_or_len-map f p xs, length-map) refl

-- an item is found where its number stands among the numbers
pub found : {A : Type 0} (f : A → ℕ) (p : ℕ → Bool) (xs : List A) (d : A) (i : ℕ) → position p (map f xs) ≡ Some i
    → find (λ x. p (f x)) xs ≡ Some (get_or xs i d)
found f p xs d i e = go (ltb (position_or_len (λ x. p (f x)) xs) (length xs)) refl (sym (place_is f p xs) ∙ e) where
  go : (b : Bool) → ltb (position_or_len (λ x. p (f x)) xs) (length xs) ≡ b
      → cond b (Some (position_or_len (λ x. p (f x)) xs)) None ≡ Some i → find (λ x. p (f x)) xs ≡ Some (get_or xs i d)
  go true less same =
      find_at (λ x. p (f x)) xs
      ∙ slice_get-get_or xs (position_or_len (λ x. p (f x)) xs) d
      ((Decides-ltb (position_or_len (λ x. p (f x)) xs) (length xs)).0 less)
      ∙ ap (λ (k : ℕ). Some (get_or xs k d)) cc
  go false more same = absurd cc

-- and not found where it doesn't
pub missing : {A : Type 0} (f : A → ℕ) (p : ℕ → Bool) (xs : List A) → position p (map f xs) ≡ None
    → find (λ x. p (f x)) xs ≡ None
missing f p xs e = go (ltb (position_or_len (λ x. p (f x)) xs) (length xs)) refl (sym (place_is f p xs) ∙ e) where
  go : (b : Bool) → ltb (position_or_len (λ x. p (f x)) xs) (length xs) ≡ b
      → cond b (Some (position_or_len (λ x. p (f x)) xs)) None ≡ None → find (λ x. p (f x)) xs ≡ None
  go true less same = absurd cc
  go false more same =
      find_at (λ x. p (f x)) xs
      ∙ slice_get_past xs (position_or_len (λ x. p (f x)) xs)
      (omega (
        arith,
        not_from_Decides (ltb (position_or_len (λ x. p (f x)) xs) (length xs))
            (Decides-ltb (position_or_len (λ x. p (f x)) xs) (length xs)) more,
      ))

last_at : (before : ℕ) (levers : List Lever) (n : ℕ) (lever : Lever) → length levers ≡ suc n
    → slice_get levers n ≡ Some lever → last_number before levers ≡ lever.number
last_at before [] n lever e at = absurd cc
last_at before (l ∷ []) zero lever e at = cc
last_at before (l ∷ []) (suc n) lever e at = absurd (omega (arith, e))
last_at before (l ∷ m ∷ levers) zero lever e at = absurd (omega (arith, e))
last_at before (l ∷ m ∷ levers) (suc n) lever e at = last_at l.number (m ∷ levers) n lever (omega (arith, e)) at

-- the last number is that of the last lever
pub last_is : (levers : List Lever) (lever : Lever) → slice_get levers (length levers - 1) ≡ Some lever
    → lever.number ≡ frame_size levers
last_is [] lever at = absurd cc
last_is (l ∷ levers) lever at =
    let e : length (l ∷ levers) - 1 ≡ length levers = omega arith in
    sym (last_at 0 (l ∷ levers) (length levers) lever refl (ap (slice_get (l ∷ levers)) (sym e) ∙ at))
