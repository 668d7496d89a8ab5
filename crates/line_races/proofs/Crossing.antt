-- Where an entry comes before one of a neighbouring box, the chain crosses from the one box to the other somewhere:
-- boxes stand in a row, and a word lies between neighbours.
use Rattle.std.proofs.Common.{ℕ, ◌+◌, ◌<◌, ◌≤◌, ◌≡◌, ◌≢◌, ◌⊎◌, inl, inr, ⊎_elim, true, false, List, Option}
use Rattle.std.proofs.Common.{Some, sym, ap, subst, ◌∙◌, arith}
use Rattle.std.specs.Prelude.{slice_get}
use Rattle.std.proofs.lemmas.Bool.{cases_eq, cases_lt, cond-false, cond-true, eq-eqb, ne_eqb}
use Rattle.line_plan.specs.Plans.{PlanFields}
use Rattle.line_law.specs.declared.call.Entry.{Entry}
use Rattle.line_journal.specs.Halves.{pair_for}
use Rattle.line_races.specs.Keys.{other_end}
use Rattle.line_races.specs.Nearest.{is_above}
use Rattle.line_races.specs.Races.{ComesBefore, Directly, Later, FindsMark, IsDirectlyBefore}
use Rattle.line_races.specs.Races.{MakesPossible, maker_of, mark_of}
use Rattle.line_races.specs.declared.marks.Mark.{Mark}
use Rattle.line_races.proofs.KeyLaws.{at_other_end, pair_choice}
use Rattle.line_races.proofs.Founds.{one_entry}

-- ---- sides

-- the box b is at the other end of the word of x: the next box above on a word shared with that, else the next below
pub record IsAboveIt (plan : PlanFields) (b : ℕ) (x : Entry) : Type 0 where
  pub side : is_above plan x ≡ true
  pub box : b ≡ x.box_no + 1

-- the box b is at the other end of the word of x: the next below
pub record IsBelowIt (plan : PlanFields) (b : ℕ) (x : Entry) : Type 0 where
  pub side : is_above plan x ≡ false
  pub box : b + 1 ≡ x.box_no

-- the box at the other end of an entry's word is the next above its box or the next below
pub side_of : (plan : PlanFields) (b : ℕ) (x : Entry) → b ≡ other_end plan x → IsAboveIt plan b x ⊎ IsBelowIt plan b x
side_of plan b x end =
    ⊎_elim (λ (same : pair_for plan x ≡ x.box_no).
    let test : is_above plan x ≡ true = eq-eqb _ _ same in
    inl (record { side = test; box = end ∙ cond-true _ (x.box_no + 1) (pair_for plan x) test }))
    (λ (differ : pair_for plan x ≢ x.box_no).
    let test : is_above plan x ≡ false = ne_eqb _ _ differ in
    let at : b ≡ pair_for plan x = end ∙ cond-false _ (x.box_no + 1) (pair_for plan x) test in
    ⊎_elim (λ (h : pair_for plan x ≡ x.box_no). absurd (differ h))
    (λ (h : pair_for plan x + 1 ≡ x.box_no). inr (record { side = test; box = ap (λ (n : ℕ). n + 1) at ∙ h }))
    (pair_choice plan x))
    (cases_eq (pair_for plan x) x.box_no)

-- the first of two entries that are so related is at the other end of the word of the second
pub mark_side : (plan : PlanFields) (left sought : Entry → Option Mark) (e x : Entry) → FindsMark plan left sought e x
    → IsAboveIt plan e.box_no x ⊎ IsBelowIt plan e.box_no x
mark_side plan left sought e x finds = side_of plan e.box_no x (at_other_end plan e x finds.apart finds.word)

-- ---- what comes before is earlier

pub directly_earlier : (plan : PlanFields) (es : List Entry) (i j : ℕ) → IsDirectlyBefore plan es i j → i < j
directly_earlier plan es i j before = ⊎_elim (λ r. r.earlier) (λ r. r.earlier) before

-- an entry that comes before another stands earlier in the journal
pub comes_earlier : (plan : PlanFields) (es : List Entry) (i j : ℕ) → ComesBefore plan es i j → i < j
comes_earlier plan es i j (Directly before) = directly_earlier plan es i j before
comes_earlier plan es i j (Later {k} first before) =
    let a : i < k = comes_earlier plan es i k first in
    let b : k < j = directly_earlier plan es k j before in omega arith

-- the entry of which something comes after another
entry_of : (plan : PlanFields) (es : List Entry) (i j : ℕ) → IsDirectlyBefore plan es i j
    → (e : Entry) × (slice_get es i ≡ Some e)
entry_of plan es i j before = ⊎_elim (λ r. (r.first, r.first_at)) (λ r. (r.first, r.first_at)) before

-- ---- the crossing

-- an entry of box b made one of box c possible, behind i and no later than j
pub record Crosses (plan : PlanFields) (es : List Entry) (b c i j : ℕ) : Type 0 where
  pub maker : ℕ
  pub made : ℕ
  pub makes : MakesPossible plan es maker made
  pub from : makes.first.box_no ≡ b
  pub to : makes.second.box_no ≡ c
  pub behind : i ≤ maker
  pub until : made ≤ j

later_crosses : (plan : PlanFields) (es : List Entry) (b c i k j : ℕ) → k < j → Crosses plan es b c i k
    → Crosses plan es b c i j
later_crosses plan es b c i k j before crosses = record {
  maker = crosses.maker;
  made = crosses.made;
  makes = crosses.makes;
  from = crosses.from;
  to = crosses.to;
  behind = crosses.behind;
  until = let u = crosses.until in omega arith;
}

-- one step that leads above a box, from it or from below it, crosses there
step_up : (plan : PlanFields) (es : List Entry) (b i k j : ℕ) (y z : Entry) → i ≤ k → slice_get es k ≡ Some y
    → slice_get es j ≡ Some z → y.box_no ≤ b → b < z.box_no → IsDirectlyBefore plan es k j
    → Crosses plan es b (b + 1) i j
step_up plan es b i k j y z behind at there low high (inl own) =
    let first : own.first ≡ y = one_entry (slice_get es k) own.first y own.first_at at in
    let second : own.second ≡ z = one_entry (slice_get es j) own.second z own.second_at there in
    let box : y.box_no ≡ z.box_no =
    sym (ap (λ (e : Entry). e.box_no) first) ∙ own.related ∙ ap (λ (e : Entry). e.box_no) second in
    absurd (omega arith)
step_up plan es b i k j y z behind at there low high (inr makes) =
    let first : makes.first.box_no ≡ y.box_no =
    ap (λ (e : Entry). e.box_no) (one_entry (slice_get es k) makes.first y makes.first_at at) in
    let second : makes.second.box_no ≡ z.box_no =
    ap (λ (e : Entry). e.box_no) (one_entry (slice_get es j) makes.second z makes.second_at there) in
    ⊎_elim (λ (above : IsAboveIt plan makes.first.box_no makes.second).
    let box = above.box in absurd (omega arith))
    (λ (below : IsBelowIt plan makes.first.box_no makes.second).
    let box = below.box in
    record {
      maker = k;
      made = j;
      makes = makes;
      from = omega arith;
      to = omega arith;
      behind = behind;
      until = omega arith;
    })
    (mark_side plan mark_of maker_of makes.first makes.second makes.related)

-- a chain that leads above a box, from it, crosses there
pub crosses_up : (plan : PlanFields) (es : List Entry) (i j : ℕ) (e z : Entry) → slice_get es i ≡ Some e
    → slice_get es j ≡ Some z → e.box_no < z.box_no → ComesBefore plan es i j
    → Crosses plan es e.box_no (e.box_no + 1) i j
crosses_up plan es i j e z at there high (Directly before) =
    step_up plan es e.box_no i i j e z (omega arith) at there (omega arith) high before
crosses_up plan es i j e z at there high (Later {k} first before) =
    let y = entry_of plan es k j before in
    ⊎_elim (λ (up : e.box_no < y.0.box_no).
    later_crosses plan es e.box_no (e.box_no + 1) i k j (directly_earlier plan es k j before)
    (crosses_up plan es i k e y.0 at y.1 up first))
    (λ (low : y.0.box_no ≤ e.box_no).
    let earlier : i < k = comes_earlier plan es i k first in
    step_up plan es e.box_no i k j y.0 z (omega arith) y.1 there low high before)
    (cases_lt e.box_no y.0.box_no)

-- one step that leads below a box, from it or from above it, crosses there
step_down : (plan : PlanFields) (es : List Entry) (b c i k j : ℕ) (y z : Entry) → c + 1 ≡ b → i ≤ k
    → slice_get es k ≡ Some y → slice_get es j ≡ Some z → b ≤ y.box_no → z.box_no < b
    → IsDirectlyBefore plan es k j → Crosses plan es b c i j
step_down plan es b c i k j y z next behind at there high low (inl own) =
    let first : own.first ≡ y = one_entry (slice_get es k) own.first y own.first_at at in
    let second : own.second ≡ z = one_entry (slice_get es j) own.second z own.second_at there in
    let box : y.box_no ≡ z.box_no =
    sym (ap (λ (e : Entry). e.box_no) first) ∙ own.related ∙ ap (λ (e : Entry). e.box_no) second in
    absurd (omega arith)
step_down plan es b c i k j y z next behind at there high low (inr makes) =
    let first : makes.first.box_no ≡ y.box_no =
    ap (λ (e : Entry). e.box_no) (one_entry (slice_get es k) makes.first y makes.first_at at) in
    let second : makes.second.box_no ≡ z.box_no =
    ap (λ (e : Entry). e.box_no) (one_entry (slice_get es j) makes.second z makes.second_at there) in
    ⊎_elim (λ (above : IsAboveIt plan makes.first.box_no makes.second).
    let box = above.box in
    record {
      maker = k;
      made = j;
      makes = makes;
      from = omega arith;
      to = omega arith;
      behind = behind;
      until = omega arith;
    })
    (λ (below : IsBelowIt plan makes.first.box_no makes.second).
    let box = below.box in absurd (omega arith))
    (mark_side plan mark_of maker_of makes.first makes.second makes.related)

-- a chain that leads below a box, from it, crosses there
pub crosses_down : (plan : PlanFields) (es : List Entry) (c i j : ℕ) (e z : Entry) → c + 1 ≡ e.box_no
    → slice_get es i ≡ Some e → slice_get es j ≡ Some z → z.box_no < e.box_no → ComesBefore plan es i j
    → Crosses plan es e.box_no c i j
crosses_down plan es c i j e z next at there low (Directly before) =
    step_down plan es e.box_no c i i j e z next (omega arith) at there (omega arith) low before
crosses_down plan es c i j e z next at there low (Later {k} first before) =
    let y = entry_of plan es k j before in
    ⊎_elim (λ (down : y.0.box_no < e.box_no).
    later_crosses plan es e.box_no c i k j (directly_earlier plan es k j before)
    (crosses_down plan es c i k e y.0 next at y.1 down first))
    (λ (high : e.box_no ≤ y.0.box_no).
    let earlier : i < k = comes_earlier plan es i k first in
    step_down plan es e.box_no c i k j y.0 z next (omega arith) y.1 there high low before)
    (cases_lt y.0.box_no e.box_no)

-- ---- the way back

-- an entry comes before each later one of its box
pub own_before : (plan : PlanFields) (es : List Entry) (i j : ℕ) (e x : Entry) → i < j → slice_get es i ≡ Some e
    → slice_get es j ≡ Some x → e.box_no ≡ x.box_no → IsDirectlyBefore plan es i j
own_before plan es i j e x earlier at there box =
    inl (record { earlier = earlier; first = e; second = x; first_at = at; second_at = there; related = box })

-- an entry comes before what a later one of its box, or it itself, made possible
pub crossing_before : (plan : PlanFields) (es : List Entry) (i maker made : ℕ) (e : Entry) → slice_get es i ≡ Some e
    → (makes : MakesPossible plan es maker made) → makes.first.box_no ≡ e.box_no → i ≤ maker
    → ComesBefore plan es i made
crossing_before plan es i maker made e at makes box behind =
    ⊎_elim (λ (same : i ≡ maker).
    Directly (inr (subst (λ (m : ℕ). MakesPossible plan es m made) (sym same) makes)))
    (λ (differ : i ≢ maker).
    Later (Directly (own_before plan es i maker e makes.first (omega arith) at makes.first_at (sym box))) (inr makes))
    (cases_eq i maker)
