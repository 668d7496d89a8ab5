-- The order exists: at each point either a lowest box is ready, or all is placed. What remains of the history goes on.
use Rattle.std.proofs.Common.{ℕ, zero, suc, ◌+◌, ◌≡◌, ◌≢◌, ◌<◌, ◌≤◌, ◌⊎◌, inl, inr, ⊎_elim, List, [], ◌∷◌, ◌++◌}
use Rattle.std.proofs.Common.{Some, None, Bool, true, false, IsTrue, ltb, length, map, refl, sym, ap, subst, ◌∙◌, arith}
use Rattle.std.specs.Prelude.{drop}
use Rattle.std.proofs.lemmas.Bool.{ltb-false, ltb-true}
use Rattle.std.proofs.lemmas.Bool.Decides.{eqb_tells}
use Rattle.std.proofs.lemmas.List.{append-nil}
use Rattle.line_plan.specs.Plans.{IsPlan, PlanFields}
use Rattle.line_law.specs.declared.call.Entry.{Entry}
use Rattle.line_law.specs.declared.state.PairState.{PairState}
use Rattle.line_law.specs.History.{IsLegal, after_entry, part_of, state_after, state_of}
use Rattle.line_law.specs.States.{LineState, opening_state}
use Rattle.train_register.specs.Registers.{AreParts, RegisterFields}
use Rattle.line_journal.specs.FitTests.{fits_here}
use Rattle.line_journal.specs.Halves.{made}
use Rattle.line_journal.specs.Lists.{HaveEnded, IsBoxFree, IsFree, IsLowestFree, count_left}
use Rattle.line_journal.specs.Merging.{Merges, Remains}
use Rattle.line_journal.specs.OneOrder.{ArePlaced, HaveOneOrder, history_behind, lists_behind}
use Rattle.line_journal.specs.Order.{Each, IsBoxReady, IsOrderFrom, keeps_back, list_at, lists_of, placed}
use Rattle.line_journal.specs.Order.{without}
use Rattle.line_journal.specs.Walks.{left_behind}
use Rattle.line_journal.proofs.Deciding.{fits_if}
use Rattle.line_journal.proofs.InOrder.{merge_is}
use Rattle.line_journal.proofs.LineSettled.{append_one}
use Rattle.line_journal.proofs.Looping.{ends, fewer, grows, if_set, lists_parts, no_list, opens}
use Rattle.line_journal.proofs.Opening.{below_next}
use Rattle.line_journal.proofs.Orders.{in_range, never_stuck, one_order, placing}

-- ---- whether the next entry of a box fits, and is free

-- a thing is so, or it isn't
abbrev Decided : Type 0 → Type 0
Decided P = P ⊎ (P → ⊥)

true_or_not : (b : Bool) → Decided (IsTrue b)
true_or_not true = inl refl
true_or_not false = inr (λ h. cc h)

false_or_not : (b : Bool) → Decided (b ≡ false)
false_or_not true = inr (λ h. cc h)
false_or_not false = inl refl

both : (P Q : Type 0) → Decided P → Decided Q → Decided (P × Q)
both P Q (inl p) (inl q) = inl (p, q)
both P Q (inl p) (inr q) = inr (λ h. q h.1)
both P Q (inr p) q = inr (λ h. p h.0)

-- whether one of these entries keeps another back
each_or_not : (plan : PlanFields) (e : Entry) (list : List Entry)
    → Decided (Each (λ x. keeps_back plan e x ≡ false) list)
each_or_not plan e [] = inl tt
each_or_not plan e (x ∷ list) =
    both (keeps_back plan e x ≡ false) (Each (λ y. keeps_back plan e y ≡ false) list)
    (false_or_not (keeps_back plan e x)) (each_or_not plan e list)

-- none of the first so many boxes but its own keeps an entry back
abbrev IsFreeBelow : PlanFields → List (List Entry) → ℕ → Entry → ℕ → Type 0
IsFreeBelow plan lists b e n = (c : ℕ) → c < n → c ≢ b → Each (λ x. keeps_back plan e x ≡ false) (list_at lists c)

one_more_free : (plan : PlanFields) (lists : List (List Entry)) (b : ℕ) (e : Entry) (n : ℕ)
    → IsFreeBelow plan lists b e n → (n ≢ b → Each (λ x. keeps_back plan e x ≡ false) (list_at lists n))
    → IsFreeBelow plan lists b e (suc n)
one_more_free plan lists b e n below here c less ne =
    ⊎_elim
    (λ mine.
    let P : ℕ → Type 0 = λ k. k ≢ b → Each (λ x. keeps_back plan e x ≡ false) (list_at lists k) in
    let there : P c = subst P (sym mine.1) here in there ne)
    (λ other. below c (omega (arith, less, other.1)) ne)
    (eqb_tells c n)

next_box_free : (plan : PlanFields) (lists : List (List Entry)) (b : ℕ) (e : Entry) (n : ℕ)
    → IsFreeBelow plan lists b e n → Decided (n ≡ b)
    → Decided (Each (λ x. keeps_back plan e x ≡ false) (list_at lists n))
    → IsFreeBelow plan lists b e (suc n) ⊎ (IsFree plan lists b e → ⊥)
next_box_free plan lists b e n below (inl own) each =
    inl (one_more_free plan lists b e n below (λ ne. absurd (ne own)))
next_box_free plan lists b e n below (inr ne) (inl each) = inl (one_more_free plan lists b e n below (λ h. each))
next_box_free plan lists b e n below (inr ne) (inr keeps) = inr (λ free. keeps (free n ne))

is_or_not : (n b : ℕ) → Decided (n ≡ b)
is_or_not n b = ⊎_elim (λ mine. inl mine.1) (λ other. inr other.1) (eqb_tells n b)

below_or_not : (plan : PlanFields) (lists : List (List Entry)) (b : ℕ) (e : Entry) (n : ℕ)
    → IsFreeBelow plan lists b e n ⊎ (IsFree plan lists b e → ⊥)
below_or_not plan lists b e zero = inl (λ c less ne. absurd (omega (arith, less)))
below_or_not plan lists b e (suc n) =
    ⊎_elim
    (λ below. next_box_free plan lists b e n below (is_or_not n b) (each_or_not plan e (list_at lists n)))
    (λ kept. inr kept)
    (below_or_not plan lists b e n)

less_or_not : (a b : ℕ) (is : Bool) → ltb a b ≡ is → (a < b) ⊎ (b ≤ a)
less_or_not a b true e = inl (ltb-true a b e)
less_or_not a b false e = inr (ltb-false a b e)

beyond_free : (plan : PlanFields) (lists : List (List Entry)) (b : ℕ) (e : Entry)
    → IsFreeBelow plan lists b e (length lists) → IsFree plan lists b e
beyond_free plan lists b e below c ne =
    ⊎_elim
    (λ (less : c < length lists). below c less ne)
    (λ (over : length lists ≤ c).
    subst (λ (l : List Entry). Each (λ x. keeps_back plan e x ≡ false) l) (sym (no_list lists c over)) tt)
    (less_or_not c (length lists) (ltb c (length lists)) refl)

free_or_not : (plan : PlanFields) (lists : List (List Entry)) (b : ℕ) (e : Entry) → Decided (IsFree plan lists b e)
free_or_not plan lists b e =
    ⊎_elim (λ below. inl (beyond_free plan lists b e below)) (λ kept. inr kept)
    (below_or_not plan lists b e (length lists))

next_or_not : (plan : PlanFields) (pairs : List PairState) (lists : List (List Entry)) (b : ℕ) (list : List Entry)
    → list_at lists b ≡ list → Decided (IsBoxFree plan pairs lists b)
next_or_not plan pairs lists b [] next = inr (λ set. let h = sym next ∙ set.next in cc h)
next_or_not plan pairs lists b (e ∷ rest) next =
    ⊎_elim
    (λ h. inl (record { entry = e; rest = rest; next = next; fits = fits_if plan pairs e h.0; free = h.1 }))
    (λ h. inr (λ set. h (if_set plan pairs lists b e rest next set)))
    (both (IsTrue (fits_here plan pairs e)) (IsFree plan lists b e) (true_or_not (fits_here plan pairs e))
    (free_or_not plan lists b e))

-- ---- the lowest such box

-- there is none below so many, or there is a lowest
abbrev LowestBelow : PlanFields → List PairState → List (List Entry) → ℕ → Type 0
LowestBelow plan pairs lists n =
    ((c : ℕ) → c < n → IsBoxFree plan pairs lists c → ⊥) ⊎ ((b : ℕ) × IsLowestFree plan pairs lists (Some b))

lowest_next : (plan : PlanFields) (pairs : List PairState) (lists : List (List Entry)) (n : ℕ)
    → ((c : ℕ) → c < n → IsBoxFree plan pairs lists c → ⊥) → Decided (IsBoxFree plan pairs lists n)
    → LowestBelow plan pairs lists (suc n)
lowest_next plan pairs lists n below (inl set) = inr (n, (set, below))
lowest_next plan pairs lists n below (inr none) =
    inl (λ c less. below_next (λ b. IsBoxFree plan pairs lists b) n below none c (omega (arith, less)))

lowest_below : (plan : PlanFields) (pairs : List PairState) (lists : List (List Entry)) (n : ℕ)
    → LowestBelow plan pairs lists n
lowest_below plan pairs lists zero = inl (λ c less. absurd (omega (arith, less)))
lowest_below plan pairs lists (suc n) =
    ⊎_elim
    (λ below. lowest_next plan pairs lists n below (next_or_not plan pairs lists n (list_at lists n) refl))
    (λ lowest. inr lowest)
    (lowest_below plan pairs lists n)

none_free : (plan : PlanFields) (pairs : List PairState) (lists : List (List Entry))
    → ((c : ℕ) → c < length lists → IsBoxFree plan pairs lists c → ⊥) → IsLowestFree plan pairs lists None
none_free plan pairs lists below b set = below b (in_range lists b set.entry set.rest set.next) set

-- ---- the order exists

next_at : (lists : List (List Entry)) (b : ℕ) (e : Entry) (rest : List Entry) → list_at lists b ≡ e ∷ rest
    → list_at lists b ≡ e ∷ drop 1 (list_at lists b)
next_at lists b e rest next = next ∙ ap (λ (l : List Entry). e ∷ drop 1 l) (sym next)

exists_from : (many : ℕ) (plan : PlanFields) (all : List (List Entry)) (done : List Entry) (pairs : List PairState)
    (lists : List (List Entry)) → IsPlan plan → Merges plan all done pairs lists → count_left lists < many
    → (es : List Entry) × IsOrderFrom plan (opening_state plan) all es
exists_from zero plan all done pairs lists is m less = absurd (omega (arith, less))
exists_from (suc many) plan all done pairs lists is m less =
    ⊎_elim
    (λ (none : (c : ℕ) → c < length lists → IsBoxFree plan pairs lists c → ⊥).
    (done, ends plan all done pairs lists is m (none_free plan pairs lists none)))
    (λ (some : (b : ℕ) × IsLowestFree plan pairs lists (Some b)).
    let b = some.0 in
    let set = some.1.0 in
    let left = fewer lists b set.entry set.rest set.next in
    exists_from many plan all (done ++ set.entry ∷ []) (made plan pairs set.entry) (placed lists b) is
    (grows plan all done pairs lists b set.entry is m some.1 (next_at lists b set.entry set.rest set.next))
    (omega (arith, left, less)))
    (lowest_below plan pairs lists (length lists))

-- the registers of a line that has ended have one order
pub have_one_order : (plan : PlanFields) (registers : List RegisterFields) → IsPlan plan → HaveEnded plan registers
    → HaveOneOrder plan registers
have_one_order plan registers is ended =
    let lists : List (List Entry) = lists_of registers in
    let order = exists_from (count_left lists + 1) plan lists [] (opening_state plan).pairs lists is
    (opens plan registers is ended) (omega arith) in
    record {
      journal = order.0;
      merge = merge_is plan registers order.0 is ended order.1;
      one = λ other is_order. one_order plan (opening_state plan) lists other order.0 is_order order.1;
    }

-- ---- what remains of the history

-- each entry of an order is placed when its box is ready
pub order_places : (plan : PlanFields) (state : LineState) (lists : List (List Entry)) (es later : List Entry)
    → IsOrderFrom plan state lists (es ++ later) → ArePlaced plan state lists es
order_places plan state lists [] later order = tt
order_places plan state lists (e ∷ es) later order = (
  (order.0.rest, order.0.here),
  order_places plan (after_entry plan state e) (placed lists e.box_no) es later order.1,
)

remains_from : (plan : PlanFields) (done : List Entry) (state : LineState) (lists : List (List Entry))
    (left es : List Entry) → IsPlan plan → Remains plan done state lists left → ArePlaced plan state lists es
    → Remains plan (done ++ es) (state_after plan state es) (left_behind lists (map (λ e. e.box_no) es))
    (history_behind left es)
remains_from plan done state lists left [] is r all =
    subst (λ (xs : List Entry). Remains plan xs state lists left) (sym (append-nil done)) r
remains_from plan done state lists left (e ∷ es) is r all =
    subst (λ (xs : List Entry). Remains plan xs (state_after plan state (e ∷ es))
    (left_behind lists (map (λ x. x.box_no) (e ∷ es))) (history_behind left (e ∷ es))) (append_one done e es)
    (remains_from plan (done ++ e ∷ []) (after_entry plan state e) (placed lists e.box_no) (without e.box_no left) es is
    (placing plan done state lists left e all.0.0 is r all.0.1) all.1)

-- what remains of the history once some entries of the order are placed
pub history_remains : (plan : PlanFields) (registers : List RegisterFields) (history es : List Entry) → IsPlan plan
    → IsLegal plan history → AreParts plan history registers
    → ArePlaced plan (opening_state plan) (lists_of registers) es
    → Remains plan es (state_of plan es) (lists_behind registers es) (history_behind history es)
history_remains plan registers history es is legal parts all =
    let ended : HaveEnded plan registers = record { history = history; legal = legal; parts = parts } in
    remains_from plan [] (opening_state plan) (lists_of registers) history es is
    (record { here = refl; legal = legal; parts = lists_parts plan registers is ended }) all

-- its first entry is ready
pub first_ready : (plan : PlanFields) (registers : List RegisterFields) (history es later : List Entry) (e : Entry)
    → IsPlan plan → IsLegal plan history → AreParts plan history registers
    → ArePlaced plan (opening_state plan) (lists_of registers) es → history_behind history es ≡ e ∷ later
    → IsBoxReady plan (state_of plan es) (lists_behind registers es) e.box_no e (part_of e.box_no later)
first_ready plan registers history es later e is legal parts all first =
    never_stuck plan es (state_of plan es) (lists_behind registers es) e later is
    (subst (λ (left : List Entry). Remains plan es (state_of plan es) (lists_behind registers es) left) first
    (history_remains plan registers history es is legal parts all))
