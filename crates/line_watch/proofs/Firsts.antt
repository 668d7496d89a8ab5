-- The shortest beginning of a legal history after which a sight is right.
use Rattle.std.proofs.Common.{◌≡◌, ◌≢◌, ◌⊎◌, inl, inr, ℕ, ◌≤◌, ◌<◌, List, [], ◌∷◌, ◌++◌, Bool, true, false}
use Rattle.std.proofs.Common.{length, refl, sym, ap, ◌∙◌, subst, arith, append_assoc, append-nil, length-append}
use Rattle.std.proofs.lemmas.Bool.Decides.{eqb_tells, leb_tells}
use mathlib.Core.List.{IsPrefix}
use Rattle.block_words.specs.declared.Position.{Position}
use Rattle.block_words.specs.declared.Position.TheVariants.{Normal, LineClear, TrainOnLine}
use Rattle.line_plan.specs.Plans.{IsPlan, PlanFields}
use Rattle.line_plan.specs.declared.section.Section.{Section}
use Rattle.line_law.specs.declared.call.Entry.{Entry}
use Rattle.line_law.specs.declared.state.Block.{Block}
use Rattle.line_law.specs.History.{IsLegal}
use Rattle.line_watch.specs.declared.sight.Sight.{Sight}
use Rattle.line_watch.specs.Sights.{IsFirstRight, IsRightAfter, instrument_after}
use Rattle.line_watch.proofs.Marks.{Follows, instrument_ages, same_between}

-- ---- beginnings of one history

no_tail : (ts : List Entry) → length ts ≡ 0 → ts ≡ []
no_tail [] e = refl
no_tail (t ∷ ts) e = absurd (omega arith)

-- a beginning as long as the whole is the whole
pub whole : (xs ys : List Entry) → IsPrefix xs ys → length ys ≤ length xs → xs ≡ ys
whole xs ys p h =
    let l = length-append xs p.0 in
    let e : length (xs ++ p.0) ≡ length ys = ap length p.1 in
    let none : p.0 ≡ [] = no_tail p.0 (omega arith) in
    sym (append-nil xs) ∙ (ap (λ (t : List Entry). xs ++ t) (sym none) ∙ p.1)

-- of two beginnings, one that is no longer begins the other
pub shorter_begins : (xs ys zs : List Entry) → IsPrefix xs zs → IsPrefix ys zs → length xs ≤ length ys → IsPrefix xs ys
shorter_begins [] ys zs p q h = (ys, refl)
shorter_begins (x ∷ xs) [] zs p q h = absurd (omega arith)
shorter_begins (x ∷ xs) (y ∷ ys) [] p q h = let e = p.1 in absurd cc
shorter_begins (x ∷ xs) (y ∷ ys) (z ∷ zs) p q h =
    let e : x ∷ (xs ++ p.0) ≡ z ∷ zs = p.1 in
    let f : y ∷ (ys ++ q.0) ≡ z ∷ zs = q.1 in
    let same : x ≡ y = cc in
    let d : xs ++ p.0 ≡ zs = cc in
    let g : ys ++ q.0 ≡ zs = cc in
    let r = shorter_begins xs ys zs (p.0, d) (q.0, g) (omega arith) in
    let t : xs ++ r.0 ≡ ys = r.1 in
    (r.0, (cc))

-- a beginning is no longer than the whole
pub longer_than : (xs ys : List Entry) → IsPrefix xs ys → length xs ≤ length ys
longer_than xs ys p =
    let l = length-append xs p.0 in
    let e : length (xs ++ p.0) ≡ length ys = ap length p.1 in
    omega arith

-- the instrument after one beginning of a legal history, and after a longer one
pub ages_to : (plan : PlanFields) (log xs ys : List Entry) (section : Section) → IsPlan plan → IsLegal plan log
    → IsPrefix xs ys → IsPrefix ys log → Follows (instrument_after plan xs section) (instrument_after plan ys section)
ages_to plan log xs ys section is legal p q =
    let all : xs ++ (p.0 ++ q.0) ≡ log =
    sym (append_assoc xs p.0 q.0) ∙ (ap (λ (l : List Entry). l ++ q.0) p.1 ∙ q.1) in
    subst (λ (l : List Entry). Follows (instrument_after plan xs section) (instrument_after plan l section)) p.1
    (instrument_ages plan xs p.0 q.0 section is (subst (λ (l : List Entry). IsLegal plan l) (sym all) legal))

-- ---- whether a sight is right

same_or_not : (p q : Position) → (p ≡ q) ⊎ (p ≢ q)
same_or_not Normal Normal = inl refl
same_or_not Normal LineClear = inr (λ e. absurd cc)
same_or_not Normal TrainOnLine = inr (λ e. absurd cc)
same_or_not LineClear Normal = inr (λ e. absurd cc)
same_or_not LineClear LineClear = inl refl
same_or_not LineClear TrainOnLine = inr (λ e. absurd cc)
same_or_not TrainOnLine Normal = inr (λ e. absurd cc)
same_or_not TrainOnLine LineClear = inr (λ e. absurd cc)
same_or_not TrainOnLine TrainOnLine = inl refl

alike_or_not : (s t : Bool) → (s ≡ t) ⊎ (s ≢ t)
alike_or_not true true = inl refl
alike_or_not true false = inr (λ e. absurd cc)
alike_or_not false true = inr (λ e. absurd cc)
alike_or_not false false = inl refl

equal_or_not : (m n : ℕ) → (m ≡ n) ⊎ (m ≢ n)
equal_or_not m n = elim (eqb_tells m n) [ inl same ↦ inl same.1 | inr differ ↦ inr differ.1 ]

right_or_not : (plan : PlanFields) (log : List Entry) (section : Section) (sight : Sight)
    → IsRightAfter plan log section sight ⊎ (IsRightAfter plan log section sight → ⊥)
right_or_not plan log section sight =
    let block : Block = instrument_after plan log section in
    elim (equal_or_not sight.turns block.turns) [
      | inl a ↦ elim (same_or_not sight.position block.position) [
        | inl b ↦ elim (alike_or_not sight.spent block.spent) [
          | inl c ↦ inl (record { turns = a; position = b; spent = c })
          | inr differ ↦ inr (λ h. differ h.spent)
        ]
        | inr differ ↦ inr (λ h. differ h.position)
      ]
      | inr differ ↦ inr (λ h. differ h.turns)
    ]

-- a sight is right wherever the instrument is the same
pub right_there : (plan : PlanFields) (xs ys : List Entry) (section : Section) (sight : Sight)
    → instrument_after plan xs section ≡ instrument_after plan ys section → IsRightAfter plan xs section sight
    → IsRightAfter plan ys section sight
right_there plan xs ys section sight e h =
    record {
      turns = h.turns ∙ ap (λ (block : Block). block.turns) e;
      position = h.position ∙ ap (λ (block : Block). block.position) e;
      spent = h.spent ∙ ap (λ (block : Block). block.spent) e;
    }

-- ---- the shortest

-- no beginning after which the sight is right is shorter than this
abbrev NoneBefore : PlanFields → List Entry → Section → Sight → List Entry → Type 0
NoneBefore plan log section sight done =
    (other : List Entry) → IsPrefix other log → IsRightAfter plan other section sight → length done ≤ length other

look_on : (plan : PlanFields) (log before : List Entry) (section : Section) (sight : Sight) (done rest : List Entry)
    → done ++ rest ≡ log → NoneBefore plan log section sight done → IsPrefix before log
    → IsRightAfter plan before section sight
    → (first : List Entry) × IsFirstRight plan log section sight first × IsPrefix first before
look_on plan log before section sight done [] e none begins right =
    let all : done ≡ log = sym (append-nil done) ∙ e in
    let long : length log ≤ length before = let a = none before begins right in let l : length done ≡ length log =
    ap length all in omega arith in
    let same : before ≡ log = whole before log begins long in (
      before,
      record {
        begins = begins;
        right = right;
        shortest = λ other p h. (let a = none other p h in
            let l : length done ≡ length log = ap length all in let k : length before ≡ length log = ap length same in
            omega arith);
      },
      ([], append-nil before),
    )
look_on plan log before section sight done (x ∷ rest) e none begins right =
    elim (right_or_not plan done section sight) [
      | inl here ↦ (
        done,
        record { begins = (x ∷ rest, e); right = here; shortest = none },
        shorter_begins done before log (x ∷ rest, e) begins (none before begins right),
      )
      | inr never ↦ look_on plan log before section sight (done ++ x ∷ []) rest
          (append_assoc done (x ∷ []) rest ∙ e)
          (λ other p h. (let a = none other p h in let l = length-append done (x ∷ []) in
          let differ : length other ≢ length done =
          λ f. never (subst (λ (log : List Entry). IsRightAfter plan log section
          sight) (sym (whole done other (shorter_begins done other log (x ∷ rest, e) p a) (omega (arith, f)))) h) in
          omega arith)) begins right
    ]

-- where a sight is right after some beginning, there is a shortest one
pub first_right : (plan : PlanFields) (log before : List Entry) (section : Section) (sight : Sight) → IsPlan plan
    → IsLegal plan log → IsPrefix before log → IsRightAfter plan before section sight
    → (first : List Entry) × IsFirstRight plan log section sight first × IsPrefix first before
first_right plan log before section sight is legal begins right =
    look_on plan log before section sight [] log refl (λ other p h. omega arith) begins right

-- there is one shortest beginning alone
pub one_first : (plan : PlanFields) (log first other : List Entry) (section : Section) (sight : Sight)
    → IsFirstRight plan log section sight first → IsFirstRight plan log section sight other → first ≡ other
one_first plan log first other section sight h g =
    whole first other
    (shorter_begins first other log h.begins g.begins (h.shortest other g.begins g.right))
    (g.shortest first h.begins h.right)

-- what is seen later is first right no earlier
pub first_no_earlier : (plan : PlanFields) (log before after first next : List Entry) (section : Section)
    (sight shown : Sight) → IsPlan plan → IsLegal plan log → IsPrefix before after → IsPrefix after log
    → IsRightAfter plan before section sight → IsRightAfter plan after section shown
    → IsFirstRight plan log section sight first → IsFirstRight plan log section shown next
    → length first ≤ length next
first_no_earlier plan log before after first next section sight shown is legal p q right right' h g =
    elim (leb_tells (length first) (length next)) [
      | inl least ↦ least.1
      | inr more ↦ absurd (let a = earlier more.1 in let b = more.1 in omega arith)
    ]
  where
    whole_begins : IsPrefix before log
    whole_begins = (p.0 ++ q.0, sym (append_assoc before p.0 q.0) ∙ (ap (λ (l : List Entry). l ++ q.0) p.1 ∙ q.1))

    earlier : length next < length first → length first ≤ length next
    earlier lt =
        let a = h.shortest before whole_begins right in
        let begins : IsPrefix next before =
        shorter_begins next before log g.begins whole_begins (omega (arith, a, lt)) in
        let same : instrument_after plan before section ≡ instrument_after plan next section =
        same_between (instrument_after plan next section) (instrument_after plan before section)
        (instrument_after plan after section) (ages_to plan log next before section is legal begins whole_begins)
        (ages_to plan log before after section is legal p q) (record {
          turns = sym g.right.turns ∙ right'.turns;
          spent = sym g.right.spent ∙ right'.spent;
        }) in
        h.shortest next g.begins (right_there plan before next section sight same right)
