-- What a remark adds to the remarks of each line.
use Rattle.std.proofs.Common.{◌≡◌, ◌∙◌, ℕ, ◌+◌, ◌<◌, Bool, true, false, cond, List, [], ◌∷◌, ◌++◌, length, refl}
use Rattle.std.proofs.Common.{get_or, take, ap, arith, eqb, sym, Option, Some, None}
use Rattle.std.proofs.lemmas.Bool.{eq-eqb, ne_eqb}
use Rattle.std.proofs.lemmas.List.{append-nil, map-append}
use Rattle.std.proofs.lemmas.List.Elements.{filter_more}
use Rattle.std.specs.Prelude.{filter, map}
use Rattle.register_sheet.specs.declared.sheet.Remark.{Remark}
use Rattle.sheet_text.specs.Rows.{is_line, remarks_of}

mapped : (r : Remark) (test : Bool)
    → map (λ (x : Remark). x.entry) (cond test (r ∷ []) []) ≡ cond test (r.entry ∷ []) []
mapped r true = refl
mapped r false = refl

dealt : (remarks : List Remark) (i t : ℕ) (r : Remark) (test : Bool) → i < length remarks → get_or remarks i r ≡ r
    → is_line t r.line ≡ test
    → remarks_of t (take (i + 1) remarks) ≡ remarks_of t (take i remarks) ++ cond test (r.entry ∷ []) []
dealt remarks i t r test within is tests =
    let before : List Remark = filter (λ (x : Remark). is_line t x.line) (take i remarks) in
    ap (λ (xs : List Remark). map (λ (x : Remark). x.entry) xs)
    (filter_more (λ (x : Remark). is_line t x.line) remarks i r within)
    ∙ ap (λ (x : Remark). map (λ (y : Remark). y.entry) (before ++ cond (is_line t x.line) (x ∷ []) [])) is
    ∙ ap (λ (b : Bool). map (λ (y : Remark). y.entry) (before ++ cond b (r ∷ []) [])) tests
    ∙ map-append (λ (y : Remark). y.entry) before (cond test (r ∷ []) [])
    ∙ ap (λ (ys : List ℕ). remarks_of t (take i remarks) ++ ys) (mapped r test)

-- a remark of this line
pub dealt_here : (remarks : List Remark) (i t line : ℕ) (r : Remark) → i < length remarks → get_or remarks i r ≡ r
    → r.line ≡ Some line → line ≡ t
    → remarks_of t (take (i + 1) remarks) ≡ remarks_of t (take i remarks) ++ r.entry ∷ []
dealt_here remarks i t line r within is its same =
    dealt remarks i t r true within is (ap (λ (l : Option ℕ). is_line t l) its ∙ eq-eqb line t same)

-- one of another
pub dealt_elsewhere : (remarks : List Remark) (i t line : ℕ) (r : Remark) → i < length remarks
    → get_or remarks i r ≡ r → r.line ≡ Some line → (line ≡ t → ⊥)
    → remarks_of t (take (i + 1) remarks) ≡ remarks_of t (take i remarks)
dealt_elsewhere remarks i t line r within is its other =
    dealt remarks i t r false within is (ap (λ (l : Option ℕ). is_line t l) its ∙ ne_eqb line t other)
    ∙ append-nil (remarks_of t (take i remarks))

-- one of no line
pub dealt_none : (remarks : List Remark) (i t : ℕ) (r : Remark) → i < length remarks → get_or remarks i r ≡ r
    → r.line ≡ None → remarks_of t (take (i + 1) remarks) ≡ remarks_of t (take i remarks)
dealt_none remarks i t r within is its =
    dealt remarks i t r false within is (ap (λ (l : Option ℕ). is_line t l) its)
    ∙ append-nil (remarks_of t (take i remarks))

pub ruleset deal_rules = (dealt_here, dealt_elsewhere, dealt_none)
