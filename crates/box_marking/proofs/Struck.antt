-- A list by the numbers of entries, with those struck off that are made good.
use Rattle.std.proofs.Common.{◌≡◌, ◌⊎◌, ℕ, ◌<◌, Bool, true, false, inl, inr, List, [], ◌∷◌, ◌++◌, length, get_or}
use Rattle.std.proofs.Common.{Option, Some, None, refl, sym, ap, subst, ◌∙◌, replicate, slice_set, arith}
use Rattle.std.specs.Prelude.{◌↔◌, Contains}
use Rattle.std.proofs.lemmas.Bool.Decides.{eqb_tells}
use Rattle.std.proofs.lemmas.List.{get_or-replicate, get_or-set_other, get_or-set_same, length-replicate, length-set}
use Rattle.reg_audit.proofs.InOrder.{contains_none}
use Rattle.box_marking.specs.Markings.{struck}
use Rattle.box_marking.proofs.Kept.{contains_cases, contains_tail}

-- some are struck off, and then others
pub struck_more : (made more : List (Option ℕ)) (done : List Bool)
    → struck (made ++ more) done ≡ struck more (struck made done)
struck_more [] more done = refl
struck_more (None ∷ made) more done = struck_more made more done
struck_more (Some k ∷ made) more done = struck_more made more (slice_set done k true)

-- it stays as long as it is
pub struck_length : (made : List (Option ℕ)) (done : List Bool) → length (struck made done) ≡ length done
struck_length [] done = refl
struck_length (None ∷ made) done = struck_length made done
struck_length (Some k ∷ made) done = struck_length made (slice_set done k true) ∙ length-set done k true

abbrev IsStruck : List (Option ℕ) → List Bool → ℕ → Type 0
IsStruck made done k = (get_or done k false ≡ true) ⊎ Contains made (Some k)

-- an entry is struck off where it was before, or is one of those
struck_either : (made : List (Option ℕ)) (done : List Bool) (k : ℕ) → k < length done
    → get_or (struck made done) k false ≡ true → IsStruck made done k
struck_either [] done k within is = inl is
struck_either (None ∷ made) done k within is = elim (struck_either made done k within is) [
  | inl before ↦ inl before
  | inr there ↦ inr (contains_tail None (Some k) made there)
]
struck_either (Some n ∷ made) done k within is =
    let longer : k < length (slice_set done n true) =
    let same = length-set done n true in omega (arith, same, within) in
    elim (struck_either made (slice_set done n true) k longer is) [
      | inl before ↦ elim (eqb_tells k n) [
        | inl same ↦ inr (0, omega arith, ap (λ (j : ℕ). Some j) (sym same.1))
        | inr differ ↦ inl (sym (get_or-set_other done n k true false differ.1) ∙ before)
      ]
      | inr there ↦ inr (contains_tail (Some n) (Some k) made there)
    ]

struck_from : (made : List (Option ℕ)) (done : List Bool) (k : ℕ) → k < length done → IsStruck made done k
    → get_or (struck made done) k false ≡ true
struck_from [] done k within (inl is) = is
struck_from [] done k within (inr there) = absurd (contains_none (Some k) there)
struck_from (None ∷ made) done k within (inl is) = struck_from made done k within (inl is)
struck_from (None ∷ made) done k within (inr there) = elim (contains_cases None (Some k) made there) [
  | inl same ↦ absurd cc
  | inr later ↦ struck_from made done k within (inr later)
]
struck_from (Some n ∷ made) done k within h =
    let now : List Bool = slice_set done n true in
    struck_from made now k (let same = length-set done n true in omega (arith, same, within))
    (elim (eqb_tells k n) [
      | inl same ↦
          inl (subst (λ (j : ℕ). get_or now j false ≡ true) (sym same.1)
          (get_or-set_same done n true false (subst (λ (j : ℕ). j < length done) same.1 within)))
      | inr differ ↦ elim h [
        | inl is ↦ inl (get_or-set_other done n k true false differ.1 ∙ is)
        | inr there ↦ elim (contains_cases (Some n) (Some k) made there) [
          | inl same ↦ absurd (differ.1 (let e : n ≡ k = cc in sym e))
          | inr later ↦ inr later
        ]
      ]
    ])

-- of a list in which nothing was struck off, an entry is struck off exactly where it is one of those
pub struck_tells : (made : List (Option ℕ)) (all k : ℕ) → k < all
    → (get_or (struck made (replicate all false)) k false ≡ true ↔ Contains made (Some k))
struck_tells made all k within =
    let none : get_or (replicate all false) k false ≡ false = get_or-replicate all k false false within in
    let long : k < length (replicate all false) =
    let same = length-replicate all false in omega (arith, same, within) in (
      λ is. elim (struck_either made (replicate all false) k long is) [
        | inl before ↦ absurd cc
        | inr there ↦ there
      ],
      λ there. struck_from made (replicate all false) k long (inr there),
    )
