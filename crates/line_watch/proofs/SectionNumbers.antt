-- The sections of a line by their numbers.
use Rattle.std.proofs.Common.{◌≡◌, ◌≢◌, ◌⊎◌, inl, inr, ⊎_elim, ℕ, zero, suc, ◌+◌, ◌-◌, ◌*◌, ◌/◌, ◌<◌, ◌==◌}
use Rattle.std.proofs.Common.{true, false, get_or, length, refl, sym, ap, subst, ◌∙◌, arith}
use Rattle.std.specs.Prelude.{IsTrue, nat_lt}
use Rattle.std.proofs.lemmas.Bool.Decides.{eqb_tells, nat_tests}
use Rattle.block_words.specs.declared.Way.{Way}
use Rattle.block_words.specs.declared.Way.TheVariants.{Up, Down}
use Rattle.line_plan.specs.Plans.{PlanFields}
use Rattle.line_plan.specs.Sections.{IsSection, sections_from, sections_of}
use Rattle.line_plan.specs.Ways.{leaves}
use Rattle.line_plan.specs.declared.section.Section.{Section}
use Rattle.line_law.proofs.Found.{both}
use Rattle.line_watch.specs.Boards.{number_on, section_number}
use Rattle.line_watch.specs.Shown.{section_in}

-- the down line's section of each pair stands at an even number, the up line's at the next
pub down_listed : (b pairs n k : ℕ) (d : Section) → n ≡ 2 * k → k < pairs
    → get_or (sections_from b pairs) n d ≡ record { rear = b + k; way = Down }
down_listed b zero n k d e h = absurd (omega arith)
down_listed b (suc pairs) zero k d e h = ap (λ (m : ℕ). record { rear = m; way = Down }) (omega (arith, e))
down_listed b (suc pairs) (suc zero) k d e h = absurd (omega (arith, e))
down_listed b (suc pairs) (suc (suc n)) zero d e h = absurd (omega (arith, e))
down_listed b (suc pairs) (suc (suc n)) (suc k) d e h =
    down_listed (b + 1) pairs n k d (omega (arith, e)) (omega (arith, h))
    ∙ ap (λ (m : ℕ). record { rear = m; way = Down }) (omega arith)

-- the sections with odd numbers are those of the up line
pub up_listed : (b pairs n k : ℕ) (d : Section) → n ≡ 2 * k + 1 → k < pairs
    → get_or (sections_from b pairs) n d ≡ record { rear = b + k + 1; way = Up }
up_listed b zero n k d e h = absurd (omega arith)
up_listed b (suc pairs) zero k d e h = absurd (omega (arith, e))
up_listed b (suc pairs) (suc zero) k d e h = ap (λ (m : ℕ). record { rear = m; way = Up }) (omega (arith, e))
up_listed b (suc pairs) (suc (suc n)) zero d e h = absurd (omega (arith, e))
up_listed b (suc pairs) (suc (suc n)) (suc k) d e h =
    up_listed (b + 1) pairs n k d (omega (arith, e)) (omega (arith, h))
    ∙ ap (λ (m : ℕ). record { rear = m; way = Up }) (omega arith)

-- each pair of neighbours has two sections
pub sections_counted : (b pairs : ℕ) → length (sections_from b pairs) ≡ 2 * pairs
sections_counted b zero = refl
sections_counted b (suc pairs) = let l = sections_counted (b + 1) pairs in omega (arith, l)

-- a section stands under its number
pub number_listed : (boxes : ℕ) (section : Section) (way : Way) → section.way ≡ way
    → IsTrue (leaves boxes section.rear way) → (d : Section)
    → get_or (sections_from 0 (boxes - 1)) (number_on section.rear way) d ≡ section
number_listed boxes section Up e is d =
    let p = both (nat_lt 0 section.rear) (nat_lt section.rear boxes) is in
    let low : 0 < section.rear = grind (arith, nat_tests) in
    let high : section.rear < boxes = grind (arith, nat_tests) in
    let rear : 0 + (section.rear - 1) + 1 ≡ section.rear = omega (arith, low) in
    up_listed 0 (boxes - 1) (2 * section.rear - 1) (section.rear - 1) d (omega (arith, low)) (omega (arith, low, high))
    ∙ (ap (λ (m : ℕ). let s : Section = record { rear = m; way = Up } in s) rear
    ∙ ap (λ (w : Way). let s : Section = record { rear = section.rear; way = w } in s) (sym e))
number_listed boxes section Down e is d =
    let high : section.rear + 1 < boxes = grind (arith, nat_tests) in
    let rear : 0 + section.rear ≡ section.rear = omega arith in
    down_listed 0 (boxes - 1) (2 * section.rear) section.rear d refl (omega (arith, high))
    ∙ (ap (λ (m : ℕ). let s : Section = record { rear = m; way = Down } in s) rear
    ∙ ap (λ (w : Way). let s : Section = record { rear = section.rear; way = w } in s) (sym e))

-- a section stands at its number
pub at_its_number : (boxes : ℕ) (section : Section) → IsTrue (leaves boxes section.rear section.way) → (d : Section)
    → get_or (sections_from 0 (boxes - 1)) (section_number section) d ≡ section
at_its_number boxes section is d = number_listed boxes section section.way refl is d

down_leaves : (n b : ℕ) → b + 1 < n → IsTrue (leaves n b Down)
down_leaves n b h = grind (arith, nat_tests)

up_leaves : (n b : ℕ) → 0 < b → b < n → IsTrue (leaves n b Up)
up_leaves n b low high =
    let a : nat_lt 0 b ≡ true = grind (arith, nat_tests) in
    let c : nat_lt b n ≡ true = grind (arith, nat_tests) in
    rw (a, c) refl

-- a number is even or odd
pub even_or_odd : (k : ℕ) → (k ≡ 2 * (k / 2)) ⊎ (k ≡ 2 * (k / 2) + 1)
even_or_odd k = ⊎_elim (λ (t : ((k == 2 * (k / 2)) ≡ true) × (k ≡ 2 * (k / 2))). inl t.1)
    (λ (t : ((k == 2 * (k / 2)) ≡ false) × (k ≢ 2 * (k / 2))). inr (let ne = t.1 in omega arith))
    (eqb_tells k (2 * (k / 2)))

-- each of the sections of a plan is one
pub listed_section : (plan : PlanFields) (k : ℕ) → k < length (sections_of plan) → IsSection plan (section_in plan k)
listed_section plan k lt =
    let n = length plan.boxes in
    let c = sections_counted 0 (n - 1) in
    let half : k / 2 < n - 1 = omega (arith, lt, c) in
    ⊎_elim
    (λ e. subst (λ (s : Section). IsSection plan s) (sym (down_listed 0 (n - 1) k (k / 2) _ e half))
    (let h : 0 + k / 2 + 1 < n = omega (arith, half) in down_leaves n (0 + k / 2) h))
    (λ e. subst (λ (s : Section). IsSection plan s) (sym (up_listed 0 (n - 1) k (k / 2) _ e half))
    (let h : 0 + k / 2 + 1 < n = omega (arith, half) in up_leaves n (0 + k / 2 + 1) (omega arith) h))
    (even_or_odd k)
