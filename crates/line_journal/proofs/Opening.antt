-- Where the first keepers let the next entry of a box pass, nothing keeps it back.
use Rattle.std.proofs.Common.{ℕ, ◌+◌, ◌≡◌, ◌≢◌, ◌<◌, ◌⊎◌, inl, inr, ⊎_elim, List, [], ◌∷◌}
use Rattle.std.proofs.Common.{Option, Some, None, Bool, true, false, IsTrue, refl, sym, subst, ◌∙◌, arith}
use Rattle.std.specs.Prelude.{not}
use Rattle.std.proofs.lemmas.Bool.Decides.{eqb_tells}
use Rattle.line_plan.specs.Plans.{IsPlan, PlanFields}
use Rattle.line_law.specs.declared.call.Entry.{Entry}
use Rattle.line_law.specs.declared.state.PairState.{PairState}
use Rattle.line_law.specs.History.{part_of, state_of}
use Rattle.line_law.specs.States.{LineState, box_at}
use Rattle.line_journal.specs.Keepers.{IsLowestOpen}
use Rattle.line_journal.specs.Keepers.{IsOpen, IsPassed, LetsPass, first_keeper}
use Rattle.line_journal.specs.Lists.{IsLowestFree, IsBoxFree}
use Rattle.line_journal.specs.Merging.{Merges}
use Rattle.line_journal.specs.Order.{Each, keeps_back, list_at}
use Rattle.line_journal.specs.Halves.{Fits, MayDoAll, Stands}
use Rattle.line_journal.proofs.Deciders.{first_decides, first_passes, keeper_near}
use Rattle.line_journal.proofs.Legal.{all_stand, told_where}
use Rattle.line_journal.proofs.Looping.{of_boxes, own_box}
use Rattle.line_journal.proofs.Orders.{each_own, each_part, legal_here, own_do}

not_by : (b : Bool) → IsTrue (not b) → b ≡ false
not_by true h = cc
not_by false h = refl

-- what is false is not true
pub by_not : (b : Bool) → b ≡ false → IsTrue (not b)
by_not true e = cc
by_not false e = refl

pub passes_by : (plan : PlanFields) (e : Entry) (list : List Entry) (x : Entry) (b : Bool)
    → first_keeper plan e list ≡ Some x → b ≡ keeps_back plan e x
    → (IsTrue (not b) → LetsPass plan e (first_keeper plan e list))
    × (LetsPass plan e (first_keeper plan e list) → IsTrue (not b))
passes_by plan e list x b found is = (
  λ h. subst (λ (o : Option Entry). LetsPass plan e o) (sym found) (sym is ∙ not_by b h),
  λ p. let q : LetsPass plan e (Some x) = subst (λ (o : Option Entry). LetsPass plan e o) found p in by_not b (is ∙ q),
)

-- of a box that isn't a neighbour nothing keeps an entry back
far_free : (plan : PlanFields) (e : Entry) (c : ℕ) (list : List Entry) → e.box_no ≢ c
    → ((c + 1 ≡ e.box_no) ⊎ (c ≡ e.box_no + 1) → ⊥) → Each (λ y. y.box_no ≡ c) list
    → Each (λ y. keeps_back plan e y ≡ false) list
far_free plan e c [] ne far own = tt
far_free plan e c (y ∷ list) ne far own =
    let P : ℕ → Type 0 = λ k. (k + 1 ≡ e.box_no) ⊎ (k ≡ e.box_no + 1) in (
      false_if (keeps_back plan e y) (λ keeps. far (subst P own.0 (keeper_near plan e y (λ h. ne (h ∙ own.0)) keeps))),
      far_free plan e c list ne far own.1,
    ) where
      false_if : (b : Bool) → (b ≡ true → ⊥) → b ≡ false
      false_if true h = absurd (h refl)
      false_if false h = refl

near_or_far : (b c : ℕ) → ((c + 1 ≡ b) ⊎ (c ≡ b + 1)) ⊎ ((c + 1 ≡ b) ⊎ (c ≡ b + 1) → ⊥)
near_or_far b c =
    ⊎_elim
    (λ low. inl (inl low.1))
    (λ not_low. ⊎_elim (λ high. inl (inr high.1)) (λ not_high.
    inr (λ h. ⊎_elim (λ (e : c + 1 ≡ b). not_low.1 e) (λ (e : c ≡ b + 1). not_high.1 e) h)) (eqb_tells c (b + 1)))
    (eqb_tells (c + 1) b)

free_box : (plan : PlanFields) (all : List (List Entry)) (done : List Entry) (pairs : List PairState)
    (lists : List (List Entry)) (b : ℕ) (e : Entry) (rest : List Entry) → IsPlan plan → Merges plan all done pairs lists
    → list_at lists b ≡ e ∷ rest → e.box_no ≡ b → Fits plan pairs e → IsPassed plan lists b e
    → (c : ℕ) → c ≢ b → ((c + 1 ≡ b) ⊎ (c ≡ b + 1)) ⊎ ((c + 1 ≡ b) ⊎ (c ≡ b + 1) → ⊥)
    → Each (λ y. keeps_back plan e y ≡ false) (list_at lists c)
free_box plan all done pairs lists b e rest is m next own fits passed c ne (inl near) =
    let r = m.merged.remains in
    let R : List Entry = m.merged.left in
    let t : LineState = state_of plan done in
    let stand : Each (Stands plan) R = all_stand plan t R is (legal_here plan done t lists R r) in
    let part : part_of b R ≡ e ∷ rest = sym (r.parts b) ∙ next in
    let own_stand : Each (Stands plan) (e ∷ rest) =
    subst (λ (l : List Entry). Each (Stands plan) l) part (each_part (Stands plan) b R stand) in
    let doing : MayDoAll plan (box_at t b) (e ∷ rest) =
    subst (λ (l : List Entry). MayDoAll plan (box_at t b) l) next (own_do plan done t lists R b is r) in
    let told =
    told_where plan t e rest (subst (λ (k : ℕ). MayDoAll plan (box_at t k) (e ∷ rest)) (sym own) doing)
    (subst (λ (ps : List PairState). Fits plan ps e) m.words fits) in
    let pass : LetsPass plan e (first_keeper plan e (part_of c R)) =
    subst (λ (l : List Entry). LetsPass plan e (first_keeper plan e l)) (r.parts c) (passed c near) in
    subst (λ (l : List Entry). Each (λ y. keeps_back plan e y ≡ false) l) (sym (r.parts c))
    (first_decides plan done R e c is r.legal stand own_stand.0 told (λ h. ne (sym h ∙ own)) pass)
free_box plan all done pairs lists b e rest is m next own fits passed c ne (inr far) =
    let r = m.merged.remains in
    let away : (c + 1 ≡ e.box_no) ⊎ (c ≡ e.box_no + 1) → ⊥ =
    subst (λ (k : ℕ). (c + 1 ≡ k) ⊎ (c ≡ k + 1) → ⊥) (sym own) far in
    subst (λ (l : List Entry). Each (λ y. keeps_back plan e y ≡ false) l) (sym (r.parts c))
    (far_free plan e c (part_of c m.merged.left) (λ h. ne (sym h ∙ own)) away (each_own c m.merged.left))

pub open_set : (plan : PlanFields) (all : List (List Entry)) (done : List Entry) (pairs : List PairState)
    (lists : List (List Entry)) (b : ℕ) → IsPlan plan → Merges plan all done pairs lists → IsOpen plan pairs lists b
    → IsBoxFree plan pairs lists b
open_set plan all done pairs lists b is m was =
    let own = (own_box plan lists b was.entry was.rest (of_boxes plan all done pairs lists is m) was.next).own in
    record {
      entry = was.entry;
      rest = was.rest;
      next = was.next;
      fits = was.fits;
      free =
          λ c ne. free_box plan all done pairs lists b was.entry was.rest is m was.next own was.fits was.passed c ne
          (near_or_far b c);
    }

not_own : (b c : ℕ) → (c + 1 ≡ b) ⊎ (c ≡ b + 1) → c ≢ b
not_own b c (inl e) h = omega (arith, e, h)
not_own b c (inr e) h = omega (arith, e, h)

pub set_open : (plan : PlanFields) (pairs : List PairState) (lists : List (List Entry)) (b : ℕ)
    → IsBoxFree plan pairs lists b → IsOpen plan pairs lists b
set_open plan pairs lists b set =
    record {
      entry = set.entry;
      rest = set.rest;
      next = set.next;
      fits = set.fits;
      passed = λ c near. first_passes plan set.entry (list_at lists c) (set.free c (not_own b c near));
    }

-- the lowest open box is the lowest that fits and is free
pub lowest_set : (plan : PlanFields) (all : List (List Entry)) (done : List Entry) (pairs : List PairState)
    (lists : List (List Entry)) (o : Option ℕ) → IsPlan plan → Merges plan all done pairs lists
    → IsLowestOpen plan pairs lists o → IsLowestFree plan pairs lists o
lowest_set plan all done pairs lists None is m lowest = λ b set. lowest b (set_open plan pairs lists b set)
lowest_set plan all done pairs lists (Some b) is m lowest = (
  open_set plan all done pairs lists b is m lowest.0,
  λ c less set.
      lowest.1 c less (set_open plan pairs lists c set),
)

-- ---- as the program has them

-- what holds of no number below one, nor of that, holds of none below the next
pub below_next : (P : ℕ → Type 0) (n : ℕ) → ((c : ℕ) → c < n → P c → ⊥) → (P n → ⊥) → (c : ℕ) → c < n + 1 → P c → ⊥
below_next P n below here c less p =
    ⊎_elim
    (λ mine. here (subst P mine.1 p))
    (λ other. below c (omega (arith, less, other.1)) p)
    (eqb_tells c n)
