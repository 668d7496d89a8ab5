-- The races that are found are exactly those of the journal.
use Rattle.std.proofs.Common.{ℕ, zero, suc, ◌+◌, ◌<◌, ◌≤◌, ◌≡◌, inl, inr, ⊎_elim, List, [], ◌∷◌, ◌++◌}
use Rattle.std.proofs.Common.{Option, Some, None, refl, sym, ap, subst, ◌∙◌, arith, length, map, get_or, All}
use Rattle.std.specs.Prelude.{Any, slice_get, slice_index}
use Rattle.std.specs.List.Sorted.{IsStrictlyIncreasing}
use Rattle.std.proofs.Math.Numerals.{add-one}
use Rattle.std.proofs.lemmas.Bool.{cases_lt}
use Rattle.std.proofs.lemmas.List.{append-nil, get_or_append_left, get_or_at, length-append, map-append}
use Rattle.std.proofs.lemmas.List.Elements.{All-nil, All-push, All-weaker}
use Rattle.std.proofs.lemmas.List.Quantifiers.{Any-push}
use Rattle.std.proofs.lemmas.Option.{slice_get_past}
use Rattle.line_plan.specs.Plans.{PlanFields}
use Rattle.line_law.specs.declared.call.Entry.{Entry}
use Rattle.line_races.specs.Nearest.{nearest_before, race_of, races_before}
use Rattle.line_races.specs.Races.{AreRaces, IsNearestRace, IsRace}
use Rattle.line_races.specs.declared.finding.Race.{Race}
use Rattle.line_races.proofs.Lasts.{IsNearestOf}
use Rattle.line_races.proofs.Nearests.{nearest_race}

-- the entry j of a race is there
race_at : (plan : PlanFields) (es : List Entry) (i j : ℕ) → IsRace plan es i j
    → (x : Entry) × (slice_get es j ≡ Some x)
race_at plan es i j (inl (meets, unwaited)) = (meets.second, meets.second_at)
race_at plan es i j (inr missed) = (missed.turned.second, missed.turned.second_at)

-- what is found for the entry at j, if there is one, is its nearest race
found_nearest : (plan : PlanFields) (es : List Entry) (j : ℕ) (o : Option Entry) → slice_get es j ≡ o
    → IsNearestOf (λ k. IsRace plan es k j) (nearest_before plan es j o)
found_nearest plan es j None there = λ k race. let x = race_at plan es k j race in let at = x.1 in cc
found_nearest plan es j (Some x) there = nearest_race plan es j x there

-- ---- one race more

any_kept : {X : Type 0} (P : X → Type 0) (xs ys : List X) → Any P xs → Any P (xs ++ ys)
any_kept P xs ys any = (
  any.0,
  any.1,
  (let h = any.2 in simp length-append (omega arith)),
  get_or_append_left xs ys any.1 any.0 any.2 ∙ any.3,
  any.4,
)

last_read : {X : Type 0} (xs : List X) (y d : X) (k : ℕ) → length xs ≡ k → get_or (xs ++ y ∷ []) k d ≡ y
last_read xs y d k same = get_or_at xs y [] d k same

-- the numbers rise on to a higher one
rising_on : (xs : List ℕ) (y : ℕ) → IsStrictlyIncreasing xs → ((k : ℕ) → k < length xs → slice_index xs k < y)
    → IsStrictlyIncreasing (xs ++ y ∷ [])
rising_on xs y rising below k within =
    let size : length (xs ++ y ∷ []) ≡ length xs + 1 = length-append xs (y ∷ []) in
    let here : get_or (xs ++ y ∷ []) k 0 ≡ get_or xs k 0 = get_or_append_left xs (y ∷ []) 0 k (omega arith) in
    ⊎_elim (λ (h : k + 1 < length xs).
    let next : get_or (xs ++ y ∷ []) (k + 1) 0 ≡ get_or xs (k + 1) 0 =
    get_or_append_left xs (y ∷ []) 0 (k + 1) h in
    let rises : get_or xs k 0 < get_or xs (k + 1) 0 = rising k h in omega arith)
    (λ (h : length xs ≤ k + 1).
    let next : get_or (xs ++ y ∷ []) (k + 1) 0 ≡ y = last_read xs y 0 (k + 1) (omega arith) in
    let rises : get_or xs k 0 < y = below k (omega arith) in omega arith)
    (cases_lt (k + 1) (length xs))

-- these are the races for so many entries
record AreListed (plan : PlanFields) (es : List Entry) (j : ℕ) (races : List Race) : Type 0 where
  pub each : All (λ race. IsNearestRace plan es race.first race.second) races
  pub none_left_out : (i k : ℕ) → k < j → IsRace plan es i k → Any (λ race. race.second ≡ k) races
  pub rising : IsStrictlyIncreasing (map (λ race. race.second) races)
  pub below : All (λ race. race.second < j) races

-- the seconds are below
seconds_below : (j : ℕ) (races : List Race) → All (λ race. race.second < j) races → (k : ℕ)
    → k < length (map (λ race. race.second) races) → slice_index (map (λ race. race.second) races) k < j
seconds_below j [] all k within = absurd (omega arith)
seconds_below j (race ∷ races) all zero within = all 0 race (omega arith)
seconds_below j (race ∷ races) all (suc k) within =
    seconds_below j races (λ n d h. all (suc n) d (omega arith)) k (omega arith)

listed_on : (plan : PlanFields) (es : List Entry) (j : ℕ) (races : List Race) (o : Option ℕ)
    → IsNearestOf (λ k. IsRace plan es k j) o → AreListed plan es j races
    → AreListed plan es (suc j) (races ++ race_of o j)
listed_on plan es j races None none listed =
    subst (λ (rs : List Race). AreListed plan es (suc j) rs) (sym (append-nil races)) (record {
      each = listed.each;
      none_left_out = λ i k h race.
          ⊎_elim (λ (lt : k < j). listed.none_left_out i k lt race)
          (λ (le : j ≤ k). let same : k ≡ j = omega arith in
          absurd (none i (subst (λ (n : ℕ). IsRace plan es i n) same race))) (cases_lt k j);
      rising = listed.rising;
      below = All-weaker (λ (race : Race). race.second < j) (λ (race : Race). race.second < suc j)
          (λ race h. omega arith) races listed.below;
    })
listed_on plan es j races (Some first) near listed =
    let race : Race = record { first = first; second = j } in
    record {
      each = All-push (λ (r : Race). IsNearestRace plan es r.first r.second) races race listed.each
          (record { race = near.0; nearest = near.1 });
      none_left_out = λ i k h is.
          ⊎_elim (λ (lt : k < j).
          any_kept (λ (r : Race). r.second ≡ k) races (race ∷ []) (listed.none_left_out i k lt is))
          (λ (le : j ≤ k). let same : j ≡ k = omega arith in
          Any-push (λ (r : Race). r.second ≡ k) races race same) (cases_lt k j);
      rising = subst IsStrictlyIncreasing (sym (map-append (λ (r : Race). r.second) races (race ∷ [])))
          (rising_on (map (λ (r : Race). r.second) races) j listed.rising (seconds_below j races listed.below));
      below = All-push (λ (r : Race). r.second < suc j) races race
          (All-weaker (λ (r : Race). r.second < j) (λ (r : Race). r.second < suc j) (λ r h. omega arith) races
          listed.below)
          (omega arith);
    }

are_listed : (plan : PlanFields) (es : List Entry) (j : ℕ) → AreListed plan es j (races_before plan es j)
are_listed plan es zero = record {
  each = All-nil (λ (r : Race). IsNearestRace plan es r.first r.second);
  none_left_out = λ i k h race. absurd (omega arith);
  rising = λ k h. absurd (omega arith);
  below = All-nil (λ (r : Race). r.second < 0);
}
are_listed plan es (suc j) =
    listed_on plan es j (races_before plan es j) (nearest_before plan es j (slice_get es j))
    (found_nearest plan es j (slice_get es j) refl) (are_listed plan es j)

-- an entry that is there is within the journal
is_within : (es : List Entry) (j : ℕ) (x : Entry) → slice_get es j ≡ Some x → j < length es
is_within es j x there =
    ⊎_elim (λ (h : j < length es). h)
    (λ (h : length es ≤ j). let past : slice_get es j ≡ None = slice_get_past es j h in absurd cc)
    (cases_lt j (length es))

-- the races for one entry more
pub races_more : (plan : PlanFields) (es : List Entry) (j : ℕ) (races : List Race) (first : Option ℕ)
    → races ≡ races_before plan es j → first ≡ nearest_before plan es j (slice_get es j)
    → races ++ race_of first j ≡ races_before plan es (j + 1)
races_more plan es j races first listed nearest =
    ap (λ (rs : List Race). rs ++ race_of first j) listed
    ∙ ap (λ (o : Option ℕ). races_before plan es j ++ race_of o j) nearest
    ∙ ap (races_before plan es) (sym (add-one j))

-- the races for all entries are the races of the journal
pub are_races : (plan : PlanFields) (es : List Entry) → AreRaces plan es (races_before plan es (length es))
are_races plan es =
    let listed = are_listed plan es (length es) in
    record {
      each = listed.each;
      none_left_out = λ i j race.
          let x = race_at plan es i j race in listed.none_left_out i j (is_within es j x.0 x.1) race;
      rising = listed.rising;
    }
