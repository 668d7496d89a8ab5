-- What a plan says of the starter and the berth of a section.
use Rattle.std.proofs.Common.{◌≡◌, ◌≢◌, ℕ, ◌-◌, ◌<◌, ◌≤◌, ◌&&◌, ◌++◌, Bool, true, false, cond, IsTrue, List, [], ◌∷◌}
use Rattle.std.proofs.Common.{Option, Some, None, All, length, map, filter, refl, sym, ap, subst, ◌∙◌, arith, eqb-true}
use Rattle.std.specs.Prelude.{not, ◌||◌, ◌==◌, nat_lt}
use Rattle.std.specs.List.{find, list_any}
use Rattle.std.proofs.lemmas.Bool.Decides.{nat_tests}
use Rattle.std.proofs.lemmas.List.Elements.{All-get_or}
use Rattle.block_words.specs.declared.Way.{Way}
use Rattle.block_words.specs.declared.Way.TheVariants.{Up, Down}
use Rattle.locking_table.specs.Sound.{all_differ}
use Rattle.line_plan.specs.Frames.{BoxFields, berth_of, berth_places, entered_by, is_entered, is_starter, is_way}
use Rattle.line_plan.specs.Frames.{leads_to, place_of, same_way, signal_of, starter_of}
use Rattle.line_plan.specs.Plans.{IsBox, IsPlan, IsTrain, PlanFields, box_at, is_train, no_train, train_at}
use Rattle.line_plan.specs.declared.berth.Berth.{Berth}
use Rattle.line_plan.specs.declared.plan.Class.{Class}
use Rattle.line_plan.specs.declared.plan.TrainPlan.{TrainPlan}
use Rattle.line_plan.specs.declared.signal.Signal.{Signal}
use Rattle.line_plan.specs.declared.signal.To.TheVariants as leads
use Rattle.line_law.proofs.Found.{both, found_test}
use Rattle.line_law.proofs.PlanFacts.{berth_is, signal_fits, signal_lever}

-- ---- ways

-- ways that are found the same are one
pub same_way_is : (v w : Way) → same_way v w ≡ true → v ≡ w
same_way_is Up Up e = refl
same_way_is Up Down e = cc
same_way_is Down Up e = cc
same_way_is Down Down e = refl

-- a way is found the same as itself
pub same_way_refl : (w : Way) → same_way w w ≡ true
same_way_refl Up = refl
same_way_refl Down = refl

-- a way that is found is there
pub way_is : (w : Way) (o : Option Way) → is_way w o ≡ true → o ≡ Some w
way_is w None e = cc
way_is w (Some v) e = ap (λ (x : Way). Some x) (sym (same_way_is w v e))

-- a way that is there is found
pub is_way_of : (w : Way) (o : Option Way) → o ≡ Some w → is_way w o ≡ true
is_way_of w o e = rw e (same_way_refl w)

-- ---- tests

-- a number is found equal to itself
pub eqb_refl : (n : ℕ) → (n == n) ≡ true
eqb_refl n = grind (arith, nat_tests)

or_true : (b : Bool) → (b || true) ≡ true
or_true true = refl
or_true false = refl

clash : (b : Bool) → b ≡ true → IsTrue (not b) → ⊥
clash true e f = cc
clash false e f = cc

-- ---- the starter of a line

-- the starter of a line leads into its section
pub starter_leads : (box_plan : BoxFields) (w : Way) (s : Signal) → starter_of box_plan w ≡ Some s → leads_to s ≡ Some w
starter_leads box_plan w s e = way_is w (leads_to s) (found_test (is_starter w) box_plan.signals s e)

any_found : (w : Way) (signals : List Signal) (s : Signal) → find (is_starter w) signals ≡ Some s
    → list_any (λ n. n == s.lever) (map (λ signal. signal.lever) signals) ≡ true
any_found w [] s e = cc
any_found w (y ∷ ys) s e = go (is_starter w y) refl e (any_found w ys s) where
  go : (b : Bool) → is_starter w y ≡ b → cond b (Some y) (find (is_starter w) ys) ≡ Some s
      → (find (is_starter w) ys ≡ Some s → list_any (λ n. n == s.lever) (map (λ signal. signal.lever) ys) ≡ true)
      → list_any (λ n. n == s.lever) (map (λ signal. signal.lever) (y ∷ ys)) ≡ true
  go true is same rec = let ys_is : y ≡ s = cc in rw ys_is (rw (eqb_refl s.lever) refl)
  go false is same rec = rw (rec same) (or_true (y.lever == s.lever))

by_lever : (w : Way) (signals : List Signal) (s : Signal) → IsTrue (all_differ (map (λ signal. signal.lever) signals))
    → find (is_starter w) signals ≡ Some s → find (λ signal. signal.lever == s.lever) signals ≡ Some s
by_lever w [] s h e = cc
by_lever w (y ∷ ys) s h e =
    let parts =
    both (not (list_any (λ m. m == y.lever) (map (λ signal. signal.lever) ys)))
    (all_differ (map (λ signal. signal.lever) ys)) h in
    go (is_starter w y) (y.lever == s.lever) refl refl e parts.0 (any_found w ys s) (by_lever w ys s parts.1) where
      go : (b c : Bool) → is_starter w y ≡ b → (y.lever == s.lever) ≡ c
          → cond b (Some y) (find (is_starter w) ys) ≡ Some s
          → IsTrue (not (list_any (λ m. m == y.lever) (map (λ signal. signal.lever) ys)))
          → (find (is_starter w) ys ≡ Some s → list_any (λ n. n == s.lever) (map (λ signal. signal.lever) ys) ≡ true)
          → (find (is_starter w) ys ≡ Some s → find (λ signal. signal.lever == s.lever) ys ≡ Some s)
          → cond c (Some y) (find (λ signal. signal.lever == s.lever) ys) ≡ Some s
      go true true is at same none there rec = same
      go true false is at same none there rec = let ys_is : y ≡ s = cc in let no_one : (s.lever == s.lever) ≡ false =
          subst (λ (z : Signal). (z.lever == s.lever) ≡ false) ys_is at in let one = eqb_refl s.lever in absurd cc
      go false false is at same none there rec = rec same
      go false true is at same none there rec =
          let same_lever : y.lever ≡ s.lever = eqb-true y.lever s.lever at in
          let none_there : IsTrue (not (list_any (λ m. m == s.lever) (map (λ signal. signal.lever) ys))) =
          subst (λ (n : ℕ). IsTrue (not (list_any (λ m. m == n) (map (λ signal. signal.lever) ys)))) same_lever
          none in
          absurd (clash (list_any (λ n. n == s.lever) (map (λ signal. signal.lever) ys)) (there same) none_there)

-- the starter of a line is the signal of its own lever
pub starter_signal : (boxes b : ℕ) (box_plan : BoxFields) (w : Way) (s : Signal) → IsBox boxes b box_plan
    → starter_of box_plan w ≡ Some s → signal_of box_plan s.lever ≡ Some s
starter_signal boxes b box_plan w s is e = by_lever w box_plan.signals s is.one_each e

filter_found : (lever : ℕ) (w : Way) (signals : List Signal) (s : Signal)
    → find (λ signal. signal.lever == lever) signals ≡ Some s → is_starter w s ≡ true
    → 1 ≤ length (filter (is_starter w) signals)
filter_found lever w [] s e is = cc
filter_found lever w (y ∷ ys) s e is =
    go (y.lever == lever) (is_starter w y) refl refl e (λ same. filter_found lever w ys s same is) where
      go : (b c : Bool) → (y.lever == lever) ≡ b → is_starter w y ≡ c
          → cond b (Some y) (find (λ signal. signal.lever == lever) ys) ≡ Some s
          → (find (λ signal. signal.lever == lever) ys ≡ Some s → 1 ≤ length (filter (is_starter w) ys))
          → 1 ≤ length (cond c (y ∷ filter (is_starter w) ys) (filter (is_starter w) ys))
      go b true at starts same rec = omega arith
      go true false at starts same rec = let ys_is : y ≡ s = cc in let no_start : is_starter w s ≡ false =
          subst (λ (z : Signal). is_starter w z ≡ false) ys_is starts in absurd cc
      go false false at starts same rec = rec same

only_found : (lever : ℕ) (w : Way) (signals : List Signal) (s : Signal) → length (filter (is_starter w) signals) ≤ 1
    → find (λ signal. signal.lever == lever) signals ≡ Some s → is_starter w s ≡ true
    → find (is_starter w) signals ≡ Some s
only_found lever w [] s few e is = cc
only_found lever w (y ∷ ys) s few e is =
    go (y.lever == lever) (is_starter w y) refl refl e few (λ same. filter_found lever w ys s same is)
    (λ same less. only_found lever w ys s less same is) where
      go : (b c : Bool) → (y.lever == lever) ≡ b → is_starter w y ≡ c
          → cond b (Some y) (find (λ signal. signal.lever == lever) ys) ≡ Some s
          → length (cond c (y ∷ filter (is_starter w) ys) (filter (is_starter w) ys)) ≤ 1
          → (find (λ signal. signal.lever == lever) ys ≡ Some s → 1 ≤ length (filter (is_starter w) ys))
          → (find (λ signal. signal.lever == lever) ys ≡ Some s → length (filter (is_starter w) ys) ≤ 1
          → find (is_starter w) ys ≡ Some s)
          → cond c (Some y) (find (is_starter w) ys) ≡ Some s
      go true true at starts same less more rec = same
      go true false at starts same less more rec = let ys_is : y ≡ s = cc in let no_start : is_starter w s ≡ false =
          subst (λ (z : Signal). is_starter w z ≡ false) ys_is starts in absurd cc
      go false true at starts same less more rec = let one = more same in absurd (omega (arith, one, less))
      go false false at starts same less more rec = rec same less

-- a signal that leads into the section of a line is its starter
pub only_starter : (boxes b : ℕ) (box_plan : BoxFields) (w : Way) (lever : ℕ) (s : Signal) → IsBox boxes b box_plan
    → signal_of box_plan lever ≡ Some s → leads_to s ≡ Some w → starter_of box_plan w ≡ Some s
only_starter boxes b box_plan Up lever s is e to =
    only_found lever Up box_plan.signals s is.one_up e (is_way_of Up (leads_to s) to)
only_starter boxes b box_plan Down lever s is e to =
    only_found lever Down box_plan.signals s is.one_down e (is_way_of Down (leads_to s) to)

-- the lever of a signal that is no starter of a line is another than that of its starter, also as they are counted from
-- 0
pub levers_apart : (boxes b : ℕ) (box_plan : BoxFields) (w : Way) (lever : ℕ) (s signal : Signal)
    → IsBox boxes b box_plan → starter_of box_plan w ≡ Some s → signal_of box_plan lever ≡ Some signal
    → (leads_to signal ≡ Some w → ⊥) → s.lever - 1 ≢ lever - 1
levers_apart boxes b box_plan w lever s signal is starter found other =
    let mine : signal_of box_plan s.lever ≡ Some s = starter_signal boxes b box_plan w s is starter in
    let one = (signal_fits boxes b box_plan s.lever s is mine).lever in
    let two = (signal_fits boxes b box_plan lever signal is found).lever in
    let same = signal_lever box_plan lever signal found in
    λ e.
    let levers : s.lever ≡ lever = omega (arith, one.0, two.0, same, e) in
    let both_found : signal_of box_plan lever ≡ Some s = subst (λ (n : ℕ). signal_of box_plan n ≡ Some s) levers mine in
    let signals : signal ≡ s = cc in
    other (ap leads_to signals ∙ starter_leads box_plan w s starter)

-- ---- the berth of a line

any_over : (place : ℕ) (over : List ℕ) → list_any (λ entered. entered == place) (over ++ place ∷ []) ≡ true
any_over place [] = rw (eqb_refl place) refl
any_over place (x ∷ xs) = rw (any_over place xs) (or_true (x == place))

leads_in : (s : Signal) (place : ℕ) → s.to ≡ leads.Place place
    → list_any (λ entered. entered == place) (entered_by s) ≡ true
leads_in s place e = rw e (any_over place s.over)

any_entered : (lever place : ℕ) (signals : List Signal) (s : Signal)
    → find (λ signal. signal.lever == lever) signals ≡ Some s → s.to ≡ leads.Place place
    → is_entered signals place ≡ true
any_entered lever place [] s e to = cc
any_entered lever place (y ∷ ys) s e to =
    go (y.lever == lever) refl e (λ same. any_entered lever place ys s same to) where
      go : (b : Bool) → (y.lever == lever) ≡ b → cond b (Some y) (find (λ signal. signal.lever == lever) ys) ≡ Some s
          → (find (λ signal. signal.lever == lever) ys ≡ Some s → is_entered ys place ≡ true)
          → is_entered (y ∷ ys) place ≡ true
      go true at same rec = let ys_is : y ≡ s = cc in rw ys_is (rw (leads_in s place to) refl)
      go false at same rec = rw (rec same) (or_true (list_any (λ entered. entered == place) (entered_by y)))

-- no signal leads to a berth
pub none_into_berth : (boxes b : ℕ) (box_plan : BoxFields) (w : Way) (berth : Berth) (lever : ℕ) (s : Signal)
    (place : ℕ) → IsBox boxes b box_plan → berth_of box_plan w ≡ Some berth → signal_of box_plan lever ≡ Some s
    → s.to ≡ leads.Place place → berth.place ≢ place
none_into_berth boxes b box_plan w berth lever s place is at found to =
    λ e.
    let entered : is_entered box_plan.signals place ≡ true = any_entered lever place box_plan.signals s found to in
    let free : is_entered box_plan.signals berth.place ≡ false = (berth_is boxes b box_plan w berth is at).free in
    let free_there : is_entered box_plan.signals place ≡ false =
    subst (λ (n : ℕ). is_entered box_plan.signals n ≡ false) e free in
    absurd cc

among_berths : (box_plan : BoxFields) (w : Way) (berth : Berth) → berth_of box_plan w ≡ Some berth
    → list_any (λ n. n == berth.place) (berth_places box_plan) ≡ true
among_berths box_plan Up berth e = rw e (rw (eqb_refl berth.place) refl)
among_berths box_plan Down berth e = go box_plan.berth_up where
  go : (up : Option Berth) → list_any (λ n. n == berth.place) (place_of up ++ place_of box_plan.berth_down) ≡ true
  go None = rw e (rw (eqb_refl berth.place) refl)
  go (Some other) = rw e (rw (eqb_refl berth.place) (or_true (other.place == berth.place)))

train_is : (classes : List Class) (boxes : List BoxFields) (trains : List TrainPlan) (t : ℕ)
    → All (IsTrain classes boxes) trains → IsTrue (is_train trains t) → IsTrain classes boxes (train_at trains t)
train_is classes boxes trains t h known =
    let parts = both (nat_lt 0 t) (nat_lt (t - 1) (length trains)) known in
    let within : t - 1 < length trains = (let p = parts.1 in grind (arith, nat_tests)) in
    All-get_or (IsTrain classes boxes) trains (t - 1) no_train within h

-- a train of the plan is brought to no berth of its box
pub brought_off_berth : (plan : PlanFields) (b : ℕ) (w : Way) (berth : Berth) (train : ℕ) → IsPlan plan
    → berth_of (box_at plan.boxes b) w ≡ Some berth → IsTrue (is_train plan.trains train)
    → (train_at plan.trains train).box_no ≡ b
    → berth.place ≢ (train_at plan.trains train).place
brought_off_berth plan b w berth train is at known here =
    let says : IsTrain plan.classes plan.boxes (train_at plan.trains train) =
    train_is plan.classes plan.boxes plan.trains train is.trains known in
    let place : ℕ = (train_at plan.trains train).place in
    let none : list_any (λ n. n == place) (berth_places (box_at plan.boxes b)) ≡ false =
    subst (λ (k : ℕ). list_any (λ n. n == place) (berth_places (box_at plan.boxes k)) ≡ false) here says.no_berth in
    λ e.
    let one : list_any (λ n. n == place) (berth_places (box_at plan.boxes b)) ≡ true =
    subst (λ (k : ℕ). list_any (λ n. n == k) (berth_places (box_at plan.boxes b)) ≡ true) e
    (among_berths (box_at plan.boxes b) w berth at) in
    absurd cc

berth_differs : (b c : Berth) → IsTrue (all_differ (b.place ∷ c.place ∷ [])) → c.place ≢ b.place
berth_differs b c h =
    λ e. differs (c.place == b.place) (rw e (eqb_refl b.place))
    (both (not ((c.place == b.place) || false)) (not false && true) h).0 where
      differs : (is : Bool) → is ≡ true → IsTrue (not (is || false)) → ⊥
      differs true e f = cc
      differs false e f = cc

-- the berths of two lines are at two places
pub berths_apart : (boxes b : ℕ) (box_plan : BoxFields) (v w : Way) (other berth : Berth) → IsBox boxes b box_plan
    → berth_of box_plan v ≡ Some other → berth_of box_plan w ≡ Some berth → (v ≡ w → ⊥) → berth.place ≢ other.place
berths_apart boxes b box_plan Up Up other berth is f g ne = absurd (ne refl)
berths_apart boxes b box_plan Down Down other berth is f g ne = absurd (ne refl)
berths_apart boxes b box_plan Up Down other berth is f g ne =
    let up : IsTrue (all_differ (place_of (Some other) ++ place_of box_plan.berth_down)) =
    subst (λ (o : Option Berth). IsTrue (all_differ (place_of o ++ place_of box_plan.berth_down))) f
    is.berths_differ in
    let differ : IsTrue (all_differ (other.place ∷ berth.place ∷ [])) =
    subst (λ (o : Option Berth). IsTrue (all_differ (place_of (Some other) ++ place_of o))) g up in
    berth_differs other berth differ
berths_apart boxes b box_plan Down Up other berth is f g ne =
    let up : IsTrue (all_differ (place_of (Some berth) ++ place_of box_plan.berth_down)) =
    subst (λ (o : Option Berth). IsTrue (all_differ (place_of o ++ place_of box_plan.berth_down))) g
    is.berths_differ in
    let differ : IsTrue (all_differ (berth.place ∷ other.place ∷ [])) =
    subst (λ (o : Option Berth). IsTrue (all_differ (place_of (Some berth) ++ place_of o))) f up in
    λ e. berth_differs berth other differ (sym e)
