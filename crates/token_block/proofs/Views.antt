-- What a list of views keeps.
use Rattle.std.proofs.Common.{◌≡◌, ◌≢◌, ℕ, zero, suc, ◌+◌, ◌<◌, ◌≤◌, ◌==◌, true, false, ⊎_elim, List, [], ◌∷◌, ◌++◌}
use Rattle.std.proofs.Common.{set}
use Rattle.std.proofs.Common.{get_or, Option, Some, None, sym, refl, ap, ◌∙◌, arith}
use mathlib.Core.Option.{some, some-injective, some-ne-none}
use lib.ListN.{get_elem?}
use Rattle.std.proofs.lemmas.Bool.Decides.{eqb_tells}
use Rattle.atomic_table.proofs.Lists.{set_else}
use Rattle.token_block.specs.declared.view.TokenView.{TokenView}
use Rattle.token_block.specs.Views.{held, holders, one_if}
use Rattle.token_block.proofs.Parts.{Es, eqb_no, eqb_yes}

-- a list stays the same where what stands at a place is written there again
pub set_same : (ns : List ℕ) (i : ℕ) → set ns i (get_or ns i 0) ≡ ns
set_same [] i = refl
set_same (n ∷ ns) zero = refl
set_same (n ∷ ns) (suc i) = λ j. n ∷ set_same ns i j

-- a view that is written in the place of another stands there
pub at_here : (views : List TokenView) (id : ℕ) (v w : TokenView) → get_elem? views id ≡ some v
    → get_elem? (set views id w) id ≡ some w
at_here [] id v w at = absurd (some-ne-none v (sym at))
at_here (x ∷ xs) zero v w at = refl
at_here (x ∷ xs) (suc id) v w at = at_here xs id v w at

-- ---- who holds a post

-- a seat that has the post of box p counts as one that holds it
pub held_yes : (p b : ℕ) (post : Option ℕ) → post ≡ Some b → b ≡ p → held p post ≡ 1
held_yes p b post has e = ap (held p) has ∙ ap one_if (eqb_yes b p e)

-- a seat that has the post of another box counts as none that holds that of box p
pub held_no : (p b : ℕ) (post : Option ℕ) → post ≡ Some b → b ≢ p → held p post ≡ 0
held_no p b post has ne = ap (held p) has ∙ ap one_if (eqb_no b p ne)

-- a seat that holds a post holds that of its box
pub held_is : (p : ℕ) (post : Option ℕ) → 0 < held p post → post ≡ Some p
held_is p None h = absurd (omega (arith, h))
held_is p (Some b) h = ⊎_elim (λ (t : ((b == p) ≡ true) × (b ≡ p)). ap (λ (x : ℕ). Some x) t.1)
    (λ (t : ((b == p) ≡ false) × (b ≢ p)).
    (let z : one_if (b == p) ≡ 0 = ap one_if t.0 in absurd (omega (arith, h, z)))) (eqb_tells b p)

-- as a seat's view changes, as many hold the post of box p as before, without the old view and with the new one
pub holders_set : (p : ℕ) (views : List TokenView) (id : ℕ) (v w : TokenView) → get_elem? views id ≡ some v
    → holders p (set views id w) + held p v.post ≡ holders p views + held p w.post
holders_set p [] id v w at = absurd (some-ne-none v (sym at))
holders_set p (x ∷ xs) zero v w at = let same : held p x.post ≡ held p v.post = ap (λ (u : TokenView). held p u.post)
    (some-injective x v at) in omega (arith, same)
holders_set p (x ∷ xs) (suc id) v w at = let r = holders_set p xs id v w at in omega (arith, r)

holders_one : (p : ℕ) (views : List TokenView) (id : ℕ) (v : TokenView) → get_elem? views id ≡ some v
    → held p v.post ≤ holders p views
holders_one p [] id v at = absurd (some-ne-none v (sym at))
holders_one p (x ∷ xs) zero v at = let same : held p x.post ≡ held p v.post = ap (λ (u : TokenView). held p u.post)
    (some-injective x v at) in omega (arith, same)
holders_one p (x ∷ xs) (suc id) v at = let r = holders_one p xs id v at in omega (arith, r)

-- two views of one list hold together no more than all
pub holders_two : (p : ℕ) (views : List TokenView) (j id : ℕ) (u v : TokenView) → j ≢ id → get_elem? views j ≡ some u
    → get_elem? views id ≡ some v → held p u.post + held p v.post ≤ holders p views
holders_two p [] j id u v ne at bt = absurd (some-ne-none u (sym at))
holders_two p (x ∷ xs) zero zero u v ne at bt = absurd (ne refl)
holders_two p (x ∷ xs) zero (suc id) u v ne at bt = let same : held p x.post ≡ held p u.post = ap
    (λ (z : TokenView). held p z.post) (some-injective x u at) in let r = holders_one p xs id v bt in
    omega (arith, same, r)
holders_two p (x ∷ xs) (suc j) zero u v ne at bt = let same : held p x.post ≡ held p v.post = ap
    (λ (z : TokenView). held p z.post) (some-injective x v bt) in let r = holders_one p xs j u at in
    omega (arith, same, r)
holders_two p (x ∷ xs) (suc j) (suc id) u v ne at bt = let r = holders_two p xs j id u v
    (λ e. ne (ap suc e)) at bt in omega (arith, r)

-- where no seat holds the post of box p, the holders of it are none
pub holders_none : (p : ℕ) (views : List TokenView)
    → ((j : ℕ) (v : TokenView) → get_elem? views j ≡ some v → held p v.post ≡ 0) → holders p views ≡ 0
holders_none p [] h = refl
holders_none p (x ∷ xs) h = let one = h 0 x refl in let r = holders_none p xs (λ j v at. h (suc j) v at) in
    omega (arith, one, r)

-- with a seat more, as many hold the post of box p as before, and the new seat if it does
pub holders_snoc : (p : ℕ) (views : List TokenView) (w : TokenView)
    → holders p (views ++ w ∷ []) ≡ holders p views + held p w.post
holders_snoc p [] w = omega arith
holders_snoc p (x ∷ xs) w = let r = holders_snoc p xs w in omega (arith, r)

-- ---- the longest history

-- some view has seen all of it
abbrev pub Whole : Es → List TokenView → Type 0
Whole log views = (j : ℕ) × (v : TokenView) × (get_elem? views j ≡ some v) × (v.seen ≡ log)

-- it stays seen where the view that changes has not seen less
pub whole_set : (log : Es) (views : List TokenView) (id : ℕ) (v w : TokenView) → get_elem? views id ≡ some v
    → Whole log views → (v.seen ≡ log → w.seen ≡ log) → Whole log (set views id w)
whole_set log views id v w at whole no_less = let j : ℕ = whole.0 in ⊎_elim
    (λ (t : ((j == id) ≡ true) × (j ≡ id)). let same : whole.1 ≡ v = some-injective whole.1 v
    (sym whole.2 ∙ (ap (get_elem? views) t.1 ∙ at)) in
    (id, w, at_here views id v w at, no_less (ap (λ (u : TokenView). u.seen) (sym same) ∙ whole.3)))
    (λ (t : ((j == id) ≡ false) × (j ≢ id)). (j, whole.1, set_else views id j w t.1 ∙ whole.2, whole.3))
    (eqb_tells j id)
