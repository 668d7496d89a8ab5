-- Names are read as they are printed, and each thing has one.
use Rattle.std.proofs.Common.{◌≡◌, ℕ, zero, suc, ◌+◌, ◌-◌, ◌<◌, ◌≤◌, Bool, true, ltb, List, [], ◌∷◌}
use Rattle.std.proofs.Common.{length, get_or, Option, Some, None, IsTrue, refl, sym, ap, ◌∙◌, arith, bytes_eq}
use Rattle.std.proofs.Common.{slice_get, position, option_map}
use Rattle.std.specs.List.{list_all}
use Rattle.std.proofs.lemmas.Bool.Decides.{nat_tests}
use Rattle.std.proofs.lemmas.List.{length-map}
use Rattle.std.proofs.lemmas.List.Quantifiers.{position-Some}
use Rattle.std.proofs.lemmas.Option.{slice_get-get_or, get_or_from_slice_get}
use Rattle.std.proofs.lemmas.Slice.Eq.{bytes_eq-Decides}
use Rattle.rail_text.specs.Names.{are_new}
use Rattle.rail_text.specs.Words.{is_name}
use Rattle.rail_text.proofs.DistinctNames.{position-distinct}
use Rattle.rail_text.proofs.PrintedLines.{both}
use Rattle.line_plan.specs.Plans.{PlanFields, IsPlan, box_at, is_train, names_of_trains}
use Rattle.line_plan.specs.declared.plan.TrainPlan.{TrainPlan}
use Rattle.script_text.specs.Names.{place_text, train_text, place_named, train_named}
use Rattle.script_text.specs.Replies.{is_place}

-- what is so of all items is so of the one at a place
pub valid_at : (test : List ℕ → Bool) (items : List (List ℕ)) (place : ℕ) → list_all test items ≡ true
    → place < length items → test (get_or items place []) ≡ true
valid_at test [] place all h = absurd (omega arith)
valid_at test (item ∷ items) zero all h = (both (test item) (list_all test items) all).0
valid_at test (item ∷ items) (suc place) all h =
    valid_at test items place (both (test item) (list_all test items) all).1 (omega arith)

-- ---- a name among names

-- the number under which a name is found is that of a name which is the same
pub found_is : (names : List (List ℕ)) (word : List ℕ) (i : ℕ) → position (bytes_eq word) names ≡ Some i
    → (i < length names) × (word ≡ get_or names i [])
found_is names word i e =
    let at = position-Some (bytes_eq word) names i [] e in
    (at.0, (bytes_eq-Decides word (get_or names i [])).0 at.1)

-- each of different names is found under its own number
pub found_at : (names : List (List ℕ)) (i : ℕ) → are_new [] names ≡ true → i < length names
    → position (bytes_eq (get_or names i [])) names ≡ Some i
found_at names i distinct h = position-distinct names i (get_or names i []) distinct (slice_get-get_or names i [] h)

-- ---- places and trains

place_there : (plan : PlanFields) (b place : ℕ) → is_place plan b place ≡ true
    → place < length (box_at plan.boxes b).places
place_there plan b place h = grind (arith, nat_tests)

-- a place is read as it is printed
pub place_read : (plan : PlanFields) (b place : ℕ) → IsPlan plan → b < length plan.boxes → is_place plan b place ≡ true
    → place_named plan b (place_text plan b place) ≡ Some place
place_read plan b place p at h =
    found_at (box_at plan.boxes b).places place (p.each b at).distinct (place_there plan b place h)

-- a word that names a place is its name
pub place_spelled : (plan : PlanFields) (b : ℕ) (word : List ℕ) (place : ℕ) → place_named plan b word ≡ Some place
    → word ≡ place_text plan b place
place_spelled plan b word place e = (found_is (box_at plan.boxes b).places word place e).1

-- the name of a place is a name
pub place_is_name : (plan : PlanFields) (b place : ℕ) → IsPlan plan → b < length plan.boxes
    → is_place plan b place ≡ true → is_name (place_text plan b place) ≡ true
place_is_name plan b place p at h =
    valid_at is_name (box_at plan.boxes b).places place (p.each b at).named (place_there plan b place h)

train_name_at : (trains : List TrainPlan) (i : ℕ) (d : TrainPlan) → i < length trains
    → get_or (names_of_trains trains) i [] ≡ (get_or trains i d).name
train_name_at [] i d h = absurd (omega arith)
train_name_at (train ∷ trains) zero d h = refl
train_name_at (train ∷ trains) (suc i) d h = train_name_at trains i d (omega arith)

record IsThere (plan : PlanFields) (train : ℕ) : Type 0 where
  low : 1 ≤ train
  high : train - 1 < length plan.trains

train_there : (plan : PlanFields) (train : ℕ) → is_train plan.trains train ≡ true → IsThere plan train
train_there plan train h =
    let e = both (ltb 0 train) (ltb (train - 1) (length plan.trains)) h in
    record { low = grind (arith, nat_tests, e.0); high = grind (arith, nat_tests, e.1) }

names_length : (plan : PlanFields) → length (names_of_trains plan.trains) ≡ length plan.trains
names_length plan = length-map plan.trains (λ train. train.name)

train_text_is : (plan : PlanFields) (train : ℕ) → is_train plan.trains train ≡ true
    → get_or (names_of_trains plan.trains) (train - 1) [] ≡ train_text plan train
train_text_is plan train h = train_name_at plan.trains (train - 1) _ (train_there plan train h).high

-- the name of a train is a name
pub train_is_name : (plan : PlanFields) (train : ℕ) → IsPlan plan → is_train plan.trains train ≡ true
    → is_name (train_text plan train) ≡ true
train_is_name plan train p h =
    let t = train_there plan train h in
    ap is_name (sym (train_text_is plan train h))
    ∙ valid_at is_name (names_of_trains plan.trains) (train - 1) p.trains_named
    (omega (arith, names_length plan, t.high))

-- a train is read as it is printed
pub train_read : (plan : PlanFields) (train : ℕ) → IsPlan plan → is_train plan.trains train ≡ true
    → train_named plan (train_text plan train) ≡ Some train
train_read plan train p h =
    let t = train_there plan train h in
    let at : position (bytes_eq (train_text plan train)) (names_of_trains plan.trains) ≡ Some (train - 1) =
    ap (λ (name : List ℕ). position (bytes_eq name) (names_of_trains plan.trains)) (sym (train_text_is plan train h))
    ∙ found_at (names_of_trains plan.trains) (train - 1) p.trains_distinct
    (omega (arith, names_length plan, t.high)) in
    let number : (train - 1) + 1 ≡ train = omega (arith, t.low) in
    rw (at, number) refl

-- a word that names a train is its name
pub train_spelled : (plan : PlanFields) (word : List ℕ) (train : ℕ) → train_named plan word ≡ Some train
    → IsTrue (is_train plan.trains train) × (word ≡ train_text plan train)
train_spelled plan word train e = go (position (bytes_eq word) (names_of_trains plan.trains)) refl e where
  go : (o : Option ℕ) → position (bytes_eq word) (names_of_trains plan.trains) ≡ o
      → option_map (λ i. i + 1) o ≡ Some train → IsTrue (is_train plan.trains train) × (word ≡ train_text plan train)
  go None at e = absurd cc
  go (Some i) at e =
      let f = found_is (names_of_trains plan.trains) word i at in
      let number : train ≡ i + 1 = cc in
      let there : is_train plan.trains train ≡ true = grind (arith, nat_tests, names_length plan, f.0, number) in
      let place : train - 1 ≡ i = omega (arith, number) in (
        there,
        f.1 ∙ ap (λ (k : ℕ). get_or (names_of_trains plan.trains) k []) (sym place)
            ∙ train_text_is plan train there,
      )

-- what stands at a place of a box is its name
pub place_is : (plan : PlanFields) (b place : ℕ) (name : List ℕ)
    → slice_get (box_at plan.boxes b).places place ≡ Some name → name ≡ place_text plan b place
place_is plan b place name e = sym (get_or_from_slice_get (box_at plan.boxes b).places place name [] e)
