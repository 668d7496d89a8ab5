-- Places of which no two are equal.
use Rattle.std.proofs.Common.{◌≡◌, ℕ, Bool, true, false, not, ◌&&◌, ◌||◌, eqb, List, [], ◌∷◌, ◌++◌, refl, ap, ◌∙◌}
use Rattle.std.proofs.Common.{arith}
use Rattle.std.specs.List.{list_any}
use Rattle.std.proofs.lemmas.Bool.Decides.{nat_tests}
use Rattle.std.proofs.lemmas.List.{append-nil}
use Rattle.std.proofs.lemmas.List.Folds.{list_any-append}
use Rattle.locking_table.specs.Sound.{all_differ}

turned : (a b e d : Bool) → (not (a || (e || false)) && (not b && d)) ≡ (not (e || b) && (not a && d))
turned true b true d = refl
turned true true false d = refl
turned true false false d = refl
turned false b true d = refl
turned false true false d = refl
turned false false false d = refl

either_way : (x y : ℕ) → eqb y x ≡ eqb x y
either_way x y = grind (arith, nat_tests)

-- a place behind the others differs from them
pub differ_behind : (xs : List ℕ) (y : ℕ)
    → all_differ (xs ++ y ∷ []) ≡ (not (list_any (λ m. eqb m y) xs) && all_differ xs)
differ_behind [] y = refl
differ_behind (x ∷ xs) y =
    ap (λ (t : Bool). not t && all_differ (xs ++ y ∷ [])) (list_any-append (λ m. eqb m x) xs (y ∷ []))
    ∙ ap (λ (t : Bool). not (list_any (λ m. eqb m x) xs || (eqb y x || false)) && t) (differ_behind xs y)
    ∙ ap (λ (e : Bool). not (list_any (λ m. eqb m x) xs || (e || false))
    && (not (list_any (λ m. eqb m y) xs) && all_differ xs)) (either_way x y)
    ∙ turned (list_any (λ m. eqb m x) xs) (list_any (λ m. eqb m y) xs) (eqb x y) (all_differ xs)

-- a signal's end differs from where it begins and from those over which it runs
pub end_differs : (from y : ℕ) (over : List ℕ)
    → all_differ (from ∷ over ++ y ∷ [])
    ≡ (not (eqb from y || list_any (λ m. eqb m y) over) && all_differ (from ∷ over))
end_differs from y over = differ_behind (from ∷ over) y

pub ruleset differ_rules = (end_differs, append-nil)
