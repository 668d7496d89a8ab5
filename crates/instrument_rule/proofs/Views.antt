-- What a list of views keeps.
use Rattle.std.proofs.Common.{◌≡◌, ◌≢◌, ℕ, zero, suc, ◌+◌, ◌<◌, ◌≤◌, eqb, true, false, ⊎_elim, List, [], ◌∷◌, ◌++◌, set}
use Rattle.std.proofs.Common.{get_or, sym, refl, ap, ◌∙◌, arith, append_assoc}
use mathlib.Core.Option.{some, some-injective, some-ne-none}
use mathlib.Core.List.{IsPrefix}
use lib.ListN.{get_elem?}
use Rattle.std.proofs.lemmas.Bool.Decides.{eqb_tells}
use Rattle.atomic_table.proofs.Lists.{set_else}
use Rattle.line_law.specs.declared.call.Entry.{Entry}
use Rattle.instrument_rule.specs.declared.view.View.{View}
use Rattle.word_laws.specs.WordNumbers.{one_if}
use Rattle.instrument_rule.specs.Views.{held, holders}
use Rattle.instrument_rule.proofs.Parts.{eqb_no, eqb_yes}

-- a number that is set where it stands changes nothing
pub set_same : (ns : List ℕ) (i : ℕ) → set ns i (get_or ns i 0) ≡ ns
set_same [] i = refl
set_same (n ∷ ns) zero = refl
set_same (n ∷ ns) (suc i) = λ j. n ∷ set_same ns i j

-- a view that is set stands there
pub at_here : (views : List View) (id : ℕ) (v w : View) → get_elem? views id ≡ some v
    → get_elem? (set views id w) id ≡ some w
at_here [] id v w at = absurd (some-ne-none v (sym at))
at_here (x ∷ xs) zero v w at = refl
at_here (x ∷ xs) (suc id) v w at = at_here xs id v w at

-- ---- who holds a box

-- how often a box is held once one view is another
pub holders_set : (p : ℕ) (views : List View) (id : ℕ) (v w : View) → get_elem? views id ≡ some v
    → holders p (set views id w) + held p v.posts ≡ holders p views + held p w.posts
holders_set p [] id v w at = absurd (some-ne-none v (sym at))
holders_set p (x ∷ xs) zero v w at = let same : held p x.posts ≡ held p v.posts = ap (λ (u : View). held p u.posts)
    (some-injective x v at) in omega arith
holders_set p (x ∷ xs) (suc id) v w at = let r = holders_set p xs id v w at in omega arith

holders_one : (p : ℕ) (views : List View) (id : ℕ) (v : View) → get_elem? views id ≡ some v
    → held p v.posts ≤ holders p views
holders_one p [] id v at = absurd (some-ne-none v (sym at))
holders_one p (x ∷ xs) zero v at = let same : held p x.posts ≡ held p v.posts = ap (λ (u : View). held p u.posts)
    (some-injective x v at) in omega arith
holders_one p (x ∷ xs) (suc id) v at = let r = holders_one p xs id v at in omega arith

-- two views of one list hold together no more than all
pub holders_two : (p : ℕ) (views : List View) (j id : ℕ) (u v : View) → j ≢ id → get_elem? views j ≡ some u
    → get_elem? views id ≡ some v → held p u.posts + held p v.posts ≤ holders p views
holders_two p [] j id u v ne at bt = absurd (some-ne-none u (sym at))
holders_two p (x ∷ xs) zero zero u v ne at bt = absurd (ne refl)
holders_two p (x ∷ xs) zero (suc id) u v ne at bt = let same : held p x.posts ≡ held p u.posts = ap
    (λ (z : View). held p z.posts) (some-injective x u at) in let r = holders_one p xs id v bt in omega arith
holders_two p (x ∷ xs) (suc j) zero u v ne at bt = let same : held p x.posts ≡ held p v.posts = ap
    (λ (z : View). held p z.posts) (some-injective x v bt) in let r = holders_one p xs j u at in omega arith
holders_two p (x ∷ xs) (suc j) (suc id) u v ne at bt = let r = holders_two p xs j id u v
    (λ e. ne (ap suc e)) at bt in omega arith

-- a box that no view holds is held by none
pub holders_none : (p : ℕ) (views : List View) → ((j : ℕ) (v : View) → get_elem? views j ≡ some v → held p v.posts ≡ 0)
    → holders p views ≡ 0
holders_none p [] h = refl
holders_none p (x ∷ xs) h = let one = h 0 x refl in let r = holders_none p xs (λ j v at. h (suc j) v at) in omega arith

-- how often a box is held with one view more
pub holders_snoc : (p : ℕ) (views : List View) (w : View)
    → holders p (views ++ w ∷ []) ≡ holders p views + held p w.posts
holders_snoc p [] w = omega arith
holders_snoc p (x ∷ xs) w = let r = holders_snoc p xs w in omega arith

-- how often a box stands among those of two seats
pub held_append : (p : ℕ) (xs ys : List ℕ) → held p (xs ++ ys) ≡ held p xs + held p ys
held_append p [] ys = omega arith
held_append p (x ∷ xs) ys = let r = held_append p xs ys in omega arith

-- what a seat of one box holds is that box
pub held_one : (p b : ℕ) → 0 < held p (b ∷ []) → b ≡ p
held_one p b h = ⊎_elim (λ (t : (eqb b p ≡ true) × (b ≡ p)). t.1)
    (λ (t : (eqb b p ≡ false) × (b ≢ p)). (let z : one_if (eqb b p) ≡ 0 = ap one_if t.0 in absurd (omega arith)))
    (eqb_tells b p)

-- it holds no other
pub held_not : (p b : ℕ) → b ≢ p → held p (b ∷ []) ≡ 0
held_not p b ne = let z : one_if (eqb b p) ≡ 0 = ap one_if (eqb_no b p ne) in omega arith

-- and it holds that once
pub held_yes : (p b : ℕ) → b ≡ p → held p (b ∷ []) ≡ 1
held_yes p b e = let z : one_if (eqb b p) ≡ 1 = ap one_if (eqb_yes b p e) in omega arith

-- the first box of a post is held
pub held_first : (b : ℕ) (bs : List ℕ) → 0 < held b (b ∷ bs)
held_first b bs = let z : one_if (eqb b b) ≡ 1 = ap one_if (eqb_yes b b refl) in omega arith

-- ---- the longest history

-- some view has seen all of it
abbrev pub Whole : List Entry → List View → Type 0
Whole log views = (j : ℕ) × (v : View) × (get_elem? views j ≡ some v) × (v.seen ≡ log)

-- it stays seen where the view that changes has not seen less
pub whole_set : (log : List Entry) (views : List View) (id : ℕ) (v w : View) → get_elem? views id ≡ some v
    → Whole log views → (v.seen ≡ log → w.seen ≡ log) → Whole log (set views id w)
whole_set log views id v w at whole no_less = let j : ℕ = whole.0 in ⊎_elim
    (λ (t : (eqb j id ≡ true) × (j ≡ id)). let same : whole.1 ≡ v = some-injective whole.1 v
    (sym whole.2 ∙ (ap (get_elem? views) t.1 ∙ at)) in
    (id, w, at_here views id v w at, no_less (ap (λ (u : View). u.seen) (sym same) ∙ whole.3)))
    (λ (t : (eqb j id ≡ false) × (j ≢ id)). (j, whole.1, set_else views id j w t.1 ∙ whole.2, whole.3))
    (eqb_tells j id)

-- a beginning of a history is one of the history with an entry more
pub longer_prefix : (xs log : List Entry) (e : Entry) → IsPrefix xs log → IsPrefix xs (log ++ e ∷ [])
longer_prefix xs log e pre =
    (pre.0 ++ e ∷ [], sym (append_assoc xs pre.0 (e ∷ [])) ∙ ap (λ (l : List Entry). l ++ e ∷ []) pre.1)
