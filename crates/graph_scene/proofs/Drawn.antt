-- Each deed of a train stands in the one line of that train.
use Rattle.std.proofs.Common.{◌≡◌, ◌∙◌, ℕ, zero, suc, ◌+◌, ◌-◌, ◌<◌, Bool, true, false, not, cond, IsTrue, List, []}
use Rattle.std.proofs.Common.{◌∷◌, All, length, get_or, map, filter, refl, ap, sym, subst, eqb, arith}
use Rattle.std.proofs.lemmas.Bool.{eq-eqb, ne_eqb}
use Rattle.std.proofs.lemmas.Bool.Decides.{nat_tests}
use Rattle.std.proofs.lemmas.List.Elements.{All-filter, All-from_get_or, All-map}
use Rattle.std.proofs.lemmas.List.FromFn.{get_or-range_with_len, length-range_with_len}
use Rattle.std.proofs.lemmas.List.Kept.{AllPairs-cons, AllPairs-filter}
use Rattle.std.specs.List.{AllPairs, Contains, range_with_len}
use Rattle.std.specs.Prelude.{nat_lt}
use Rattle.line_law.specs.declared.call.Entry.{Entry}
use Rattle.line_law.proofs.Found.{both}
use Rattle.line_plan.specs.Plans.{PlanFields, is_train}
use Rattle.graph_scene.specs.declared.deeds.TrainDeed.{TrainDeed}
use Rattle.graph_scene.specs.declared.lines.TrainLine.{TrainLine}
use Rattle.graph_scene.specs.Deeds.{deeds_of}
use Rattle.graph_scene.specs.Lines.{deeds_by, is_drawn, line_of, lines_of}

-- ---- lists

here : {X : Type 0} (x : X) (xs : List X) → Contains (x ∷ xs) x
here x xs = (0, omega arith, refl)

there : {X : Type 0} (x y : X) (xs : List X) → Contains xs x → Contains (y ∷ xs) x
there x y xs in' = (suc in'.0, (let h = in'.1 in omega (arith, h)), in'.2)

kept : {X : Type 0} (test : Bool) (x y : X) (xs : List X) → Contains xs x → Contains (cond test (y ∷ xs) xs) x
kept true x y xs in' = there x y xs in'
kept false x y xs in' = in'

taken : {X : Type 0} (test : Bool) (x y : X) (xs : List X) → test ≡ true → y ≡ x → Contains (cond test (y ∷ xs) xs) x
taken test x y xs passes same =
    subst (λ (b : Bool). Contains (cond b (y ∷ xs) xs) x) (sym passes)
    (subst (λ z. Contains (z ∷ xs) x) (sym same) (here x xs))

in_filter : {X : Type 0} (test : X → Bool) (x : X) (xs : List X) (k : ℕ) → test x ≡ true → k < length xs
    → get_or xs k x ≡ x → Contains (filter test xs) x
in_filter test x [] k passes within is = absurd (omega (arith, within))
in_filter test x (y ∷ ys) zero passes within is =
    taken (test y) x y (filter test ys) (ap test is ∙ passes) is
in_filter test x (y ∷ ys) (suc k) passes within is =
    kept (test y) x y (filter test ys) (in_filter test x ys k passes (omega (arith, within)) is)

in_map : {X Y : Type 0} (f : X → Y) (x : X) (xs : List X) (k : ℕ) → k < length xs → get_or xs k x ≡ x
    → Contains (map f xs) (f x)
in_map f x [] k within is = absurd (omega (arith, within))
in_map f x (y ∷ ys) zero within is =
    subst (λ z. Contains (f z ∷ map f ys) (f x)) (sym is) (here (f x) (map f ys))
in_map f x (y ∷ ys) (suc k) within is = there (f x) (f y) (map f ys) (in_map f x ys k (omega (arith, within)) is)

some : {X : Type 0} (x : X) (xs : List X) → Contains xs x → not (eqb (length xs) 0) ≡ true
some x [] in' = absurd (let h = in'.1 in omega (arith, h))
some x (y ∷ ys) in' = ap not (ne_eqb (length (y ∷ ys)) 0 (λ e. omega (arith, e)))

-- ---- lines

-- a deed stands in the line of its train
pub deed_there : (plan : PlanFields) (es : List Entry) (its : TrainDeed) → Contains (deeds_of plan es) its
    → Contains (line_of (deeds_of plan es) its.train).deeds its
deed_there plan es its in' =
    in_filter (λ (deed : TrainDeed). eqb deed.train its.train) its (deeds_of plan es) in'.0
    (eq-eqb its.train its.train refl) in'.1 in'.2

-- and that line is drawn
pub line_there : (plan : PlanFields) (es : List Entry) (its : TrainDeed) → Contains (deeds_of plan es) its
    → IsTrue (is_train plan.trains its.train) → Contains (lines_of plan es) (line_of (deeds_of plan es) its.train)
line_there plan es its in' train =
    let parts = both (nat_lt 0 its.train) (nat_lt (its.train - 1) (length plan.trains)) train in
    let low : 0 < its.train = (let p = parts.0 in grind (arith, nat_tests)) in
    let high : its.train - 1 < length plan.trains = (let p = parts.1 in grind (arith, nat_tests)) in
    let numbers = range_with_len 1 (length plan.trains) in
    let long = length-range_with_len 1 (length plan.trains) in
    let at : get_or numbers (its.train - 1) its.train ≡ its.train =
    get_or-range_with_len 1 (length plan.trains) (its.train - 1) its.train high ∙ omega (arith, low) in
    let mapped = in_map (line_of (deeds_of plan es)) its.train numbers (its.train - 1) (omega (arith, long, high)) at in
    in_filter is_drawn (line_of (deeds_of plan es) its.train) (map (line_of (deeds_of plan es)) numbers) mapped.0
    (some its (deeds_by its.train (deeds_of plan es)) (deed_there plan es its in')) mapped.1 mapped.2

-- each line that is drawn is that of its train
pub line_own : (plan : PlanFields) (es : List Entry)
    → All (λ line. line ≡ line_of (deeds_of plan es) line.train) (lines_of plan es)
line_own plan es =
    All-filter is_drawn (λ (line : TrainLine). line ≡ line_of (deeds_of plan es) line.train)
    (map (line_of (deeds_of plan es)) (range_with_len 1 (length plan.trains)))
    (All-map (λ (line : TrainLine). line ≡ line_of (deeds_of plan es) line.train) (line_of (deeds_of plan es))
    (range_with_len 1 (length plan.trains))
    (All-from_get_or (λ (t : ℕ). line_of (deeds_of plan es) t ≡ line_of (deeds_of plan es) t)
    (range_with_len 1 (length plan.trains)) 0 (λ i within. refl)))

above : (deeds : List TrainDeed) (t a n : ℕ) → t < a
    → All (λ (line : TrainLine). t < line.train) (map (line_of deeds) (range_with_len a n))
above deeds t a n low =
    All-map (λ (line : TrainLine). t < line.train) (line_of deeds) (range_with_len a n)
    (All-from_get_or (λ (x : ℕ). t < x) (range_with_len a n) 0
    (λ i within. let long = length-range_with_len a n in
    let at = get_or-range_with_len a n i 0 (omega (arith, long, within)) in omega (arith, at, low)))

rising : (deeds : List TrainDeed) (a n : ℕ)
    → AllPairs (λ (one other : TrainLine). one.train < other.train) (map (line_of deeds) (range_with_len a n))
rising deeds a zero = λ i j d before within. absurd (omega (arith, within))
rising deeds a (suc n) =
    AllPairs-cons (λ (one other : TrainLine). one.train < other.train) (line_of deeds a)
    (map (line_of deeds) (range_with_len (a + 1) n)) (above deeds a (a + 1) n (omega arith)) (rising deeds (a + 1) n)

-- no train has two lines: they stand in the order of the plan
pub lines_rise : (plan : PlanFields) (es : List Entry)
    → AllPairs (λ (one other : TrainLine). one.train < other.train) (lines_of plan es)
lines_rise plan es =
    AllPairs-filter (λ (one other : TrainLine). one.train < other.train) is_drawn
    (map (line_of (deeds_of plan es)) (range_with_len 1 (length plan.trains)))
    (rising (deeds_of plan es) 1 (length plan.trains))

pub ruleset line_rules = (deed_there, line_there, line_own, lines_rise)
