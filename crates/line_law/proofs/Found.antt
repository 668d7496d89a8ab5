-- What is found in the lists of a plan.
use Rattle.std.proofs.Common.{◌≡◌, ◌&&◌, Bool, true, false, cond, IsTrue, List, [], ◌∷◌, Some, All, refl, subst}
use Rattle.std.specs.List.{find}
use Rattle.std.proofs.lemmas.List.Elements.{All-head, All-tail}

-- both of two tests that hold together
pub both : (a b : Bool) → IsTrue (a && b) → IsTrue a × IsTrue b
both true b h = (refl, h)
both false b h = absurd cc

-- what holds of each item holds of the one that is found
pub found_All : {A : Type 0} (P : A → Type 0) (p : A → Bool) (xs : List A) (x : A) → find p xs ≡ Some x → All P xs → P x
found_All P p [] x e h = absurd cc
found_All P p (y ∷ ys) x e h = go (p y) e (λ same. found_All P p ys x same (All-tail P y ys h)) where
  go : (b : Bool) → cond b (Some y) (find p ys) ≡ Some x → (find p ys ≡ Some x → P x) → P x
  go true same later = let yx : y ≡ x = cc in subst P yx (All-head P y ys h)
  go false same later = later same

-- the item that is found passes the test
pub found_test : {A : Type 0} (p : A → Bool) (xs : List A) (x : A) → find p xs ≡ Some x → p x ≡ true
found_test p [] x e = absurd cc
found_test p (y ∷ ys) x e = go (p y) refl e (λ same. found_test p ys x same) where
  go : (b : Bool) → p y ≡ b → cond b (Some y) (find p ys) ≡ Some x → (find p ys ≡ Some x → p x ≡ true) → p x ≡ true
  go true is same later = let yx : y ≡ x = cc in subst (λ z. p z ≡ true) yx is
  go false is same later = later same
