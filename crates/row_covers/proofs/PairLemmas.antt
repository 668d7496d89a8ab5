-- Whether two rows make a pair that holds as much as another row.
use Rattle.std.proofs.Common.{◌≡◌, ◌≢◌, ◌↔◌, ℕ, ◌+◌, ◌<◌, Bool, false, true, List, length, sym, ap, subst, ◌∙◌}
use Rattle.std.proofs.Common.{arith, get_or, inl, inr}
use Rattle.std.specs.Prelude.{IsTrue, None, Option}
use Rattle.std.proofs.lemmas.Bool.{cases_lt}
use Rattle.std.proofs.lemmas.List.{get_or_default}
use Rattle.locking_table.specs.declared.row.Row.{Row}
use Rattle.locking_table.specs.Index.{no_row}
use Rattle.frame_walk.specs.Walked.{Walked}
use Rattle.row_covers.specs.Covers.{CoverTogether}
use Rattle.row_covers.specs.Pairs.{AreAlone, IsAlone, IsPair, IsPartner, row_of}

-- the row at a place, as it was read
pub row_is : (w : Walked) (seen : List Row) (at : ℕ) (row : Row) → seen ≡ w.rows → at < length seen
    → row ≡ get_or seen at row → row_of w at ≡ row
row_is w seen at row same lt read =
    ap (λ (rs : List Row). get_or rs at no_row) (sym same) ∙ get_or_default seen at no_row row lt ∙ sym read

never : (P : Type 0) → ¬ P → IsTrue false ↔ P
never P out = (λ h. absurd (let e : false ≡ true = h in cc), λ p. absurd (out p))

-- a row makes no pair for itself
pub first_same : (w : Walked) (at one two : ℕ) → one ≡ at → IsTrue false ↔ IsPair w at one two
first_same w at one two same = never (IsPair w at one two) (λ p. p.one_other same)

pub second_same : (w : Walked) (at one two : ℕ) → two ≡ at → IsTrue false ↔ IsPair w at one two
second_same w at one two same = never (IsPair w at one two) (λ p. p.two_other same)

-- others make one exactly where they hold as much
pub pair_is : (w : Walked) (at one two : ℕ) (cover : Bool) (row first second : Row) → row_of w at ≡ row
    → row_of w one ≡ first → row_of w two ≡ second → one ≢ at → two ≢ at
    → IsTrue cover ↔ CoverTogether w first second row → IsTrue cover ↔ IsPair w at one two
pair_is w at one two cover row first second here there too apart apart' is =
    let a = subst (λ (r : Row). IsTrue cover ↔ CoverTogether w first second r) (sym here) is in
    let b = subst (λ (r : Row). IsTrue cover ↔ CoverTogether w first r (row_of w at)) (sym too) a in
    let c = subst (λ (r : Row). IsTrue cover ↔ CoverTogether w r (row_of w two) (row_of w at)) (sym there) b in
    (λ h. record { one_other = apart; two_other = apart'; cover = c.0 h }, λ p. c.1 p.cover)

module _ (w : Walked) (at one : ℕ) where
  -- one row more that makes no pair with one
  pub alone_on : (two : ℕ) → IsAlone w at one two → ¬ IsPair w at one two → IsAlone w at one (two + 1)
  alone_on two alone not k behind less pair = elim (cases_lt k two) [
    | inl before ↦ alone k behind before pair
    | inr late ↦
        let here : k ≡ two = omega (arith, less, late) in
        not (subst (λ (n : ℕ). IsPair w at one n) here pair)
  ]

  -- one row more that makes none with those behind it
  pub alone_too : (partner : Option ℕ) → AreAlone w at one → IsPartner w at one partner → partner ≡ None
      → AreAlone w at (one + 1)
  alone_too partner alone is none k less = elim (cases_lt k one) [
    | inl before ↦ alone k before
    | inr late ↦
        let here : one ≡ k = omega (arith, less, late) in
        subst (λ (n : ℕ). IsAlone w at n (length w.rows)) here
        (subst (λ (o : Option ℕ). IsPartner w at one o) none is)
  ]
