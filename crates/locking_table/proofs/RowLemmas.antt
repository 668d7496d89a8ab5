-- The levers of a row.
use Rattle.std.proofs.Common.{◌≡◌, ℕ, Bool, not, ◌&&◌, ◌||◌, ◌==◌, List, [], ◌∷◌, refl, ap, ◌∙◌}
use Rattle.std.specs.Prelude.{map}
use Rattle.std.specs.List.{list_any}
use Rattle.locking_table.specs.declared.row.Cond.{Cond}
use Rattle.locking_table.specs.Sound.{all_differ, conds_differ}

pub list_any-map : {A B : Type 0} (test : B → Bool) (f : A → B) (xs : List A)
    → list_any test (map f xs) ≡ list_any (λ x. test (f x)) xs
list_any-map test f [] = refl
list_any-map test f (x ∷ xs) = ap (λ b. test (f x) || b) (list_any-map test f xs)

pub all_differ-conds : (conds : List Cond) → all_differ (map (λ cond. cond.lever) conds) ≡ conds_differ conds
all_differ-conds [] = refl
all_differ-conds (c ∷ cs) =
    ap (λ (b : Bool). not b && all_differ (map (λ cond. cond.lever) cs))
    (list_any-map (λ (n : ℕ). n == c.lever) (λ (cond : Cond). cond.lever) cs)
    ∙ ap (λ (b : Bool). not (list_any (λ (later : Cond). later.lever == c.lever) cs) && b) (all_differ-conds cs)

-- the levers of conditions among which a lever is, or isn't
pub named_conds : (lever : ℕ) (conds : List Cond)
    → list_any (λ n. n == lever) (map (λ cond. cond.lever) conds) ≡ list_any (λ cond. cond.lever == lever) conds
named_conds lever conds = list_any-map (λ (n : ℕ). n == lever) (λ (cond : Cond). cond.lever) conds

pub ruleset row_rules = (all_differ-conds, named_conds)
