-- The next entry of a box is answered: whether it is open, and what is open after it.
use Rattle.std.proofs.Common.{ℕ, ◌+◌, ◌-◌, ◌*◌, ◌++◌, ◌≡◌, ◌<◌, ◌≤◌, ◌⊎◌, inl, inr, List, [], ◌∷◌, Some, None}
use Rattle.std.proofs.Common.{Bool, true, drop, length, mul-le-mul_right, slice_index_or, sym, ap, subst, ◌∙◌, arith}
use Rattle.std.specs.Prelude.{slice_get}
use Rattle.std.proofs.lemmas.Bool.{cases_lt}
use Rattle.std.proofs.lemmas.List.{length-set}
use Rattle.line_plan.specs.Plans.{IsPlan, PlanFields}
use Rattle.line_law.specs.declared.call.Entry.{Entry}
use Rattle.line_law.specs.declared.state.PairState.{PairState}
use Rattle.line_journal.specs.Halves.{made}
use Rattle.line_journal.specs.Keepers.{IsFirstAwake, IsLowestOpen, IsOpen, IsPlacing, NoneAsleepOpen}
use Rattle.line_journal.specs.Keepers.{NoneOpenBelow}
use Rattle.line_journal.specs.Lists.{HasSpaceFor}
use Rattle.line_journal.specs.Merging.{Merges}
use Rattle.line_journal.specs.Order.{list_at}
use Rattle.line_journal.proofs.Looping.{grown_by, has_space}
use Rattle.line_journal.proofs.Opening.{lowest_set}
use Rattle.line_journal.proofs.Orders.{in_range}

-- a list whose first item there is begins with it
pub first_next : (list : List Entry) (e : Entry) → Some e ≡ slice_get list 0 → list ≡ e ∷ drop 1 list
first_next [] e first = absurd (cc first)
first_next (x ∷ xs) e first = let same : e ≡ x = cc first in ap (λ (y : Entry). y ∷ xs) (sym same)

-- a box with no entry left isn't open
pub none_shut : (plan : PlanFields) (pairs : List PairState) (lists : List (List Entry)) (b : ℕ)
    → None ≡ slice_get (list_at lists b) 0 → IsOpen plan pairs lists b → ⊥
none_shut plan pairs lists b none was =
    let some : slice_get (list_at lists b) 0 ≡ Some was.entry =
    ap (λ (list : List Entry). slice_get list 0) was.next in
    let no : None ≡ Some was.entry = none ∙ some in cc no

-- ---- as the program has them

-- the same of what the program has
pub below_as : (plan : PlanFields) (pairs written : List PairState) (lists left : List (List Entry)) (n from : ℕ)
    → written ≡ pairs → left ≡ lists → from ≡ n → NoneOpenBelow plan pairs lists n
    → NoneOpenBelow plan written left from
below_as plan pairs written lists left n from p l f none =
    subst (λ (ps : List PairState). NoneOpenBelow plan ps left from) (sym p)
    (subst (λ (ls : List (List Entry)). NoneOpenBelow plan pairs ls from) (sym l)
    (subst (λ (m : ℕ). NoneOpenBelow plan pairs lists m) (sym f) none))

-- of no box below the first one that is awake from a box on
pub awake_below : (plan : PlanFields) (pairs : List PairState) (lists : List (List Entry)) (awake asked : List Bool)
    (from b : ℕ) → asked ≡ awake → NoneAsleepOpen plan pairs lists awake → NoneOpenBelow plan pairs lists from
    → IsFirstAwake asked from (Some b) → NoneOpenBelow plan pairs lists b
awake_below plan pairs lists awake asked from b same asleep below first c less was = by (cases_lt c from) where
  by : (c < from) ⊎ (from ≤ c) → ⊥
  by (inl under) = below c under was
  by (inr over) = asleep c (sym (ap (λ (bs : List Bool). slice_index_or bs c true) same) ∙ first.3 c over less) was

-- where none is awake from there on, no box is open
pub none_awake : (plan : PlanFields) (pairs : List PairState) (lists : List (List Entry)) (awake asked : List Bool)
    (from : ℕ) → asked ≡ awake → length awake ≡ length lists → NoneAsleepOpen plan pairs lists awake
    → NoneOpenBelow plan pairs lists from → IsFirstAwake asked from None → IsLowestOpen plan pairs lists None
none_awake plan pairs lists awake asked from same each asleep below none b was = by (cases_lt b from) where
  within : b < length lists
  within = in_range lists b was.entry was.rest was.next

  count : length asked ≡ length awake
  count = ap (λ (bs : List Bool). length bs) same

  by : (b < from) ⊎ (from ≤ b) → ⊥
  by (inl under) = below b under was
  by (inr over) =
      asleep b (sym (ap (λ (bs : List Bool). slice_index_or bs b true) same)
      ∙ none b over (omega (arith, within, each, count))) was

-- ---- the loop of the merge

-- an open box finds the space that its entry needs
pub space_for : (plan : PlanFields) (all : List (List Entry)) (done : List Entry) (pairs : List PairState)
    (lists : List (List Entry)) (b : ℕ) → IsPlan plan → Merges plan all done pairs lists
    → NoneOpenBelow plan pairs lists b → IsOpen plan pairs lists b → HasSpaceFor plan pairs lists b
space_for plan all done pairs lists b is m below was =
    has_space plan all done pairs lists b is m (lowest_set plan all done pairs lists (Some b) is m (was, below))

-- a placing leaves as many lists
pub placing_left : (plan : PlanFields) (pairs : List PairState) (lists : List (List Entry)) (b : ℕ) (e : Entry)
    (after : List PairState) (left : List (List Entry)) → IsPlacing plan pairs lists b e after left
    → length left ≡ length lists
placing_left plan pairs lists b e after left p =
    ap (λ (ls : List (List Entry)). length ls) p.rest ∙ length-set lists b _

-- one more entry is done
pub placing_merges : (plan : PlanFields) (all : List (List Entry)) (done : List Entry) (pairs : List PairState)
    (lists : List (List Entry)) (b : ℕ) (e : Entry) (after : List PairState) (left : List (List Entry))
    (more : List Entry) → IsPlan plan → Merges plan all done pairs lists → NoneOpenBelow plan pairs lists b
    → IsPlacing plan pairs lists b e after left → more ≡ done ++ e ∷ [] → Merges plan all more after left
placing_merges plan all done pairs lists b e after left more is m below p x =
    grown_by plan all done pairs lists b e more after left is m
    (lowest_set plan all done pairs lists (Some b) is m (p.opens, below)) p.next x p.words p.rest

-- or none, where all is as it was
pub same_merges : (plan : PlanFields) (all : List (List Entry)) (done : List Entry) (pairs back : List PairState)
    (lists left : List (List Entry)) → Merges plan all done pairs lists → back ≡ pairs → left ≡ lists
    → Merges plan all done back left
same_merges plan all done pairs back lists left m p l =
    subst (λ (ps : List PairState). Merges plan all done ps left) (sym p)
    (subst (λ (ls : List (List Entry)). Merges plan all done pairs ls) (sym l) m)

times_more : (m n : ℕ) → (m + 1) * (n + 1) ≡ m * (n + 1) + (n + 1)
times_more m n = grind arith

-- with an entry fewer left, wherever the search goes on
pub fewer_left : (k m n f g : ℕ) → m < k → m * (n + 1) + (n - g) < k * (n + 1) + (n - f)
fewer_left k m n f g less =
    let more = times_more m n in
    let most : (m + 1) * (n + 1) ≤ k * (n + 1) = mul-le-mul_right {m = m + 1} {n = k} (n + 1) (omega (arith, less)) in
    omega (arith, more, most)

-- with no more left, where it goes on behind a box
pub farther_on : (k m n f g : ℕ) → m ≤ k → f < g → f < n → m * (n + 1) + (n - g) < k * (n + 1) + (n - f)
farther_on k m n f g few past within =
    let most : m * (n + 1) ≤ k * (n + 1) = mul-le-mul_right {m = m} {n = k} (n + 1) few in
    omega (arith, most, past, within)
