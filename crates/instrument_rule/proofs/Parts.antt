-- Parts of histories, and what lies between two of them.
use Rattle.std.proofs.Common.{◌≡◌, ◌≢◌, ℕ, zero, suc, ◌+◌, ◌*◌, ◌<◌, ◌≤◌, Bool, true, false, cond, ⊎_elim, List, []}
use Rattle.std.proofs.Common.{◌∷◌, ◌++◌, length, sym, refl, ap, ◌∙◌, subst, arith, length-append, append-nil}
use Rattle.std.proofs.Common.{append_assoc}
use Rattle.std.specs.Prelude.{◌==◌}
use mathlib.Core.List.{IsPrefix}
use Rattle.std.proofs.lemmas.Bool.Decides.{eqb_tells}
use Rattle.line_plan.specs.Plans.{IsPlan, PlanFields}
use Rattle.line_law.specs.declared.call.Entry.{Entry}
use Rattle.line_law.specs.History.{IsLegal, IsLegalFrom, after_entry, part_of, state_of}
use Rattle.line_law.specs.States.{LineState, box_at, opening_state}
use Rattle.word_laws.proofs.Footprints.{keeps_others}
use Rattle.line_law.proofs.Histories.{entry_determined, history_states, prefix_legal, state_grows}
use Rattle.line_law.proofs.Sides.{known_box}

-- ---- parts

cond_yes : (t : Bool) (e : Entry) (es : List Entry) → t ≡ true → cond t (e ∷ es) es ≡ e ∷ es
cond_yes true e es h = refl
cond_yes false e es h = absurd cc

cond_no : (t : Bool) (e : Entry) (es : List Entry) → t ≡ false → cond t (e ∷ es) es ≡ es
cond_no true e es h = absurd cc
cond_no false e es h = refl

-- equal numbers test as equal
pub eqb_yes : (a b : ℕ) → a ≡ b → (a == b) ≡ true
eqb_yes a b e = ⊎_elim (λ (t : ((a == b) ≡ true) × (a ≡ b)). t.0) (λ (t : ((a == b) ≡ false) × (a ≢ b)). absurd (t.1 e))
    (eqb_tells a b)

-- and others don't
pub eqb_no : (a b : ℕ) → a ≢ b → (a == b) ≡ false
eqb_no a b ne = ⊎_elim (λ (t : ((a == b) ≡ true) × (a ≡ b)). absurd (ne t.1))
    (λ (t : ((a == b) ≡ false) × (a ≢ b)). t.0) (eqb_tells a b)

-- an entry of the box itself, and of another
pub part_own : (b : ℕ) (e : Entry) (es : List Entry) → e.box_no ≡ b → part_of b (e ∷ es) ≡ e ∷ part_of b es
part_own b e es is = cond_yes (e.box_no == b) e (part_of b es) (eqb_yes e.box_no b is)

-- an entry of another box is none of a box's part
pub part_other : (b : ℕ) (e : Entry) (es : List Entry) → e.box_no ≢ b → part_of b (e ∷ es) ≡ part_of b es
part_other b e es ne = cond_no (e.box_no == b) e (part_of b es) (eqb_no e.box_no b ne)

cond_append : (t : Bool) (e : Entry) (xs ys : List Entry)
    → cond t (e ∷ (xs ++ ys)) (xs ++ ys) ≡ cond t (e ∷ xs) xs ++ ys
cond_append true e xs ys = refl
cond_append false e xs ys = refl

-- the part of a box in two lists, one after the other
pub part-append : (b : ℕ) (xs ys : List Entry) → part_of b (xs ++ ys) ≡ part_of b xs ++ part_of b ys
part-append b [] ys = refl
part-append b (e ∷ xs) ys = ap (λ (l : List Entry). cond (e.box_no == b) (e ∷ l) l) (part-append b xs ys) ∙ cond_append
    (e.box_no == b) e (part_of b xs) (part_of b ys)

-- an entry of the box makes its part longer
pub part_grows : (b : ℕ) (es : List Entry) (e : Entry) → e.box_no ≡ b
    → part_of b (es ++ e ∷ []) ≡ part_of b es ++ e ∷ []
part_grows b es e is = part-append b es (e ∷ []) ∙ ap (λ (l : List Entry). part_of b es ++ l) (part_own b e [] is)

-- and one of another box leaves it
pub part_stays : (b : ℕ) (es : List Entry) (e : Entry) → e.box_no ≢ b → part_of b (es ++ e ∷ []) ≡ part_of b es
part_stays b es e ne = part-append b es (e ∷ []) ∙ ap (λ (l : List Entry). part_of b es ++ l) (part_other b e [] ne)
    ∙ append-nil (part_of b es)

nothing_more : (a b c : List Entry) → (a ++ b) ++ c ≡ a → c ≡ []
nothing_more [] [] c e = e
nothing_more [] (x ∷ b) c e = cc
nothing_more (x ∷ a) b c e = nothing_more a b c (cc)

-- the part in a history between two that have the same part
pub between : (p : ℕ) (xs ys log : List Entry) → IsPrefix xs ys → IsPrefix ys log → part_of p log ≡ part_of p xs
    → part_of p log ≡ part_of p ys
between p xs ys log a b same =
    let ys_is : part_of p xs ++ part_of p a.0 ≡ part_of p ys = sym (part-append p xs a.0) ∙ ap (part_of p) a.1 in
    let log_is : part_of p ys ++ part_of p b.0 ≡ part_of p log = sym (part-append p ys b.0) ∙ ap (part_of p) b.1 in
    let none_left : part_of p b.0 ≡ [] = nothing_more (part_of p xs) (part_of p a.0) (part_of p b.0)
    (ap (λ (l : List Entry). l ++ part_of p b.0) ys_is ∙ (log_is ∙ same)) in
    sym log_is ∙ (ap (λ (l : List Entry). part_of p ys ++ l) none_left ∙ append-nil (part_of p ys))

-- what was added to a beginning with the same part has no entry of the box
added_none : (p : ℕ) (xs more : List Entry) → part_of p (xs ++ more) ≡ part_of p xs → part_of p more ≡ []
added_none p xs more same = nothing_more (part_of p xs) [] (part_of p more)
    (ap (λ (l : List Entry). l ++ part_of p more) (append-nil (part_of p xs)) ∙ (sym (part-append p xs more) ∙ same))

-- ---- what others' entries keep

-- what each entry of another box keeps, in histories of at most m entries
abbrev pub OthersKeep : PlanFields → ℕ → ℕ → (List Entry → Type 0) → Type 0
OthersKeep plan m b P = (es : List Entry) (e : Entry) → IsLegal plan (es ++ e ∷ []) → length es < m → e.box_no ≢ b
    → P es → P (es ++ e ∷ [])

-- stands after them all
kept_by_others : (plan : PlanFields) (m b : ℕ) (P : List Entry → Type 0) → OthersKeep plan m b P
    → (xs more : List Entry) → IsLegal plan (xs ++ more) → length (xs ++ more) ≤ m → part_of b more ≡ [] → P xs
    → P (xs ++ more)
kept_by_others plan m b P keep xs [] legal few none h = subst P (sym (append-nil xs)) h
kept_by_others plan m b P keep xs (e ∷ more) legal few none h =
    let joined : (xs ++ e ∷ []) ++ more ≡ xs ++ e ∷ more = append_assoc xs (e ∷ []) more in
    let legal' : IsLegal plan ((xs ++ e ∷ []) ++ more) = subst (IsLegal plan) (sym joined) legal in
    let few' : length ((xs ++ e ∷ []) ++ more) ≤ m = subst (λ (l : List Entry). length l ≤ m) (sym joined) few in
    let l = length-append xs (e ∷ more) in
    let before : length xs < m = omega arith in
    let other : e.box_no ≢ b = λ is. (let own = part_own b e more is in absurd cc) in
    subst P joined
    (kept_by_others plan m b P keep (xs ++ e ∷ []) more legal' few' (sym (part_other b e more other) ∙ none)
    (keep xs e (prefix_legal plan (xs ++ e ∷ []) more legal') before other h))

-- the same from what was seen to a history that has no other entry of the box
pub stands : (plan : PlanFields) (m b : ℕ) (P : List Entry → Type 0) → OthersKeep plan m b P
    → (seen log : List Entry) → IsPrefix seen log → IsLegal plan log → length log ≤ m → part_of b log ≡ part_of b seen
    → P seen → P log
stands plan m b P keep seen log begins legal few same h =
    let legal' : IsLegal plan (seen ++ begins.0) = subst (IsLegal plan) (sym begins.1) legal in
    let few' : length (seen ++ begins.0) ≤ m = subst (λ (l : List Entry). length l ≤ m) (sym begins.1) few in
    subst P begins.1 (kept_by_others plan m b P keep seen begins.0 legal' few'
    (added_none b seen begins.0 (ap (part_of b) begins.1 ∙ same)) h)

-- a box is as its own entries left it
pub own_box : (plan : PlanFields) (b : ℕ) (seen log : List Entry) → IsPlan plan → IsPrefix seen log → IsLegal plan log
    → part_of b log ≡ part_of b seen
    → box_at (state_of plan log) b ≡ box_at (state_of plan seen) b
own_box plan b seen log is begins legal same = stands plan (length log) b
    (λ (es : List Entry). box_at (state_of plan es) b ≡ box_at (state_of plan seen) b) keep seen log begins legal
    (omega arith) same refl
  where
    keep : OthersKeep plan (length log) b
        (λ (es : List Entry). box_at (state_of plan es) b ≡ box_at (state_of plan seen) b)
    keep es e legal few ne h =
        let known = (entry_determined plan es [] e legal).0.known in
        ap (λ (s : LineState). box_at s b) (state_grows plan es e) ∙
        ((keeps_others plan (state_of plan es) e.box_no e.call is (history_states plan es) known).boxes b
        (λ is. ne (sym is)) ∙ h)

-- ---- how long a history is

-- the lengths of the parts of so many boxes, added up
abbrev parts_sum : ℕ → List Entry → ℕ
parts_sum zero es = 0
parts_sum (suc n) es = length (part_of n es) + parts_sum n es

one_more : (n : ℕ) (e : Entry) (es : List Entry) → length (part_of n es) ≤ length (part_of n (e ∷ es))
one_more n e es = ⊎_elim (λ (t : ((e.box_no == n) ≡ true) × (e.box_no ≡ n)).
    (let l = ap length (part_own n e es t.1) in omega arith))
    (λ (t : ((e.box_no == n) ≡ false) × (e.box_no ≢ n)). (let l = ap length (part_other n e es t.1) in omega arith))
    (eqb_tells e.box_no n)

sum_more : (n : ℕ) (e : Entry) (es : List Entry) → parts_sum n es ≤ parts_sum n (e ∷ es)
sum_more zero e es = omega arith
sum_more (suc n) e es = let a = sum_more n e es in let b = one_more n e es in omega arith

sum_grows : (n : ℕ) (e : Entry) (es : List Entry) → e.box_no < n → parts_sum n es + 1 ≤ parts_sum n (e ∷ es)
sum_grows zero e es h = absurd (omega arith)
sum_grows (suc n) e es h = ⊎_elim
    (λ (t : ((e.box_no == n) ≡ true) × (e.box_no ≡ n)).
    (let l = ap length (part_own n e es t.1) in let a = sum_more n e es in omega arith))
    (λ (t : ((e.box_no == n) ≡ false) × (e.box_no ≢ n)).
    (let ne = t.1 in let a = sum_grows n e es (omega arith) in let b = one_more n e es in omega arith))
    (eqb_tells e.box_no n)

sum_bound : (n m : ℕ) (es : List Entry) → ((b : ℕ) → length (part_of b es) ≤ m) → parts_sum n es ≤ n * m
sum_bound zero m es h = omega arith
sum_bound (suc n) m es h = let a = sum_bound n m es h in let b = h n in omega arith

all_counted : (plan : PlanFields) (state : LineState) (es : List Entry) → IsLegalFrom plan state es
    → length es ≤ parts_sum (length plan.boxes) es
all_counted plan state [] legal = omega arith
all_counted plan state (e ∷ es) legal =
    let r = all_counted plan (after_entry plan state e) es legal.2 in
    let g = sum_grows (length plan.boxes) e es (known_box plan e.box_no e.call legal.0.known) in
    omega arith

-- a legal history is no longer than its parts
pub length_by_parts : (plan : PlanFields) (es : List Entry) (m : ℕ) → IsLegal plan es
    → ((b : ℕ) → length (part_of b es) ≤ m) → length es ≤ length plan.boxes * m
length_by_parts plan es m legal short = let a = all_counted plan (opening_state plan) es legal in let b = sum_bound
    (length plan.boxes) m es short in omega arith
