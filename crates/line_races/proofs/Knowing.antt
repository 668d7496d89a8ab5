-- What is kept of each man's knowledge reaches as far as he was made to wait.
use Rattle.std.proofs.Common.{ℕ, zero, suc, ◌<◌, ◌≤◌, ◌==◌, ◌&&◌, ◌≡◌, ◌≢◌, ⊎_elim, Bool, true, false}
use Rattle.std.proofs.Common.{List, Option, Some, None, refl, sym, ap, subst, ◌∙◌, arith}
use Rattle.std.specs.Prelude.{slice_get, if◌then◌else◌}
use Rattle.std.proofs.lemmas.Bool.{and_from, and_parts, cases_eq, cases_lt, eq-eqb, eqb-true}
use Rattle.line_plan.specs.Plans.{PlanFields}
use Rattle.line_law.specs.declared.call.Entry.{Entry}
use Rattle.line_races.specs.Nearest.{is_above, known_after, known_before, later_of, maker_at}
use Rattle.line_races.specs.Nearest.{marks_of, same_side}
use Rattle.line_races.specs.Races.{MakesPossible, maker_of}
use Rattle.line_races.proofs.Founds.{nearest_found, one_entry}
use Rattle.line_races.proofs.KeyLaws.{left_kind, maker_kind}
use Rattle.line_races.proofs.Lasts.{IsNearestOf, IsReached, reached_by, reached_left, reached_right}

-- the maker that is found is the nearest one
pub nearest_maker : (plan : PlanFields) (es : List Entry) (j : ℕ) (x : Entry) → slice_get es j ≡ Some x
    → IsNearestOf (λ i. MakesPossible plan es i j) (maker_at plan es j x)
nearest_maker plan es j x there =
    nearest_found plan es marks_of maker_of (λ i e. left_kind e.reply) (λ y. maker_kind y.reply) j x there

-- the maker that is found reaches as far as any
pub maker_reaches : (plan : PlanFields) (es : List Entry) (i m j : ℕ) (o : Option ℕ) → i ≤ m
    → IsNearestOf (λ k. MakesPossible plan es k j) o → MakesPossible plan es m j → IsReached i o
maker_reaches plan es i m j None behind near makes = near m makes
maker_reaches plan es i m j (Some k) behind near makes =
    ⊎_elim (λ (lt : k < m). absurd (near.1 m lt makes)) (λ (le : m ≤ k). omega arith) (cases_lt k m)

-- ---- what a man has learned

-- an entry of the neighbour above or below, behind i, made one of box c possible before j
pub record HasLearned (plan : PlanFields) (es : List Entry) (c : ℕ) (above : Bool) (i j : ℕ) : Type 0 where
  pub maker : ℕ
  pub made : ℕ
  pub makes : MakesPossible plan es maker made
  pub to : makes.second.box_no ≡ c
  pub side : is_above plan makes.second ≡ above
  pub behind : i ≤ maker
  pub before : made < j

still_learned : (plan : PlanFields) (es : List Entry) (c : ℕ) (above : Bool) (i j : ℕ) → HasLearned plan es c above i j
    → HasLearned plan es c above i (suc j)
still_learned plan es c above i j has = record {
  maker = has.maker;
  made = has.made;
  makes = has.makes;
  to = has.to;
  side = has.side;
  behind = has.behind;
  before = let b = has.before in omega arith;
}

one_side : (above side : Bool) → same_side above side ≡ true → side ≡ above
one_side true side h = h
one_side false true h = cc
one_side false false h = refl

side_itself : (side : Bool) → same_side side side ≡ true
side_itself true = refl
side_itself false = refl

-- the maker of the entry at j
learned_now : (plan : PlanFields) (es : List Entry) (c : ℕ) (above : Bool) (i j : ℕ) (x : Entry)
    → slice_get es j ≡ Some x → x.box_no ≡ c → is_above plan x ≡ above → (o : Option ℕ)
    → IsNearestOf (λ k. MakesPossible plan es k j) o → IsReached i o → HasLearned plan es c above i (suc j)
learned_now plan es c above i j x there box side None near reached = absurd reached
learned_now plan es c above i j x there box side (Some m) near reached =
    let makes : MakesPossible plan es m j = near.0 in
    let same : x ≡ makes.second = one_entry (slice_get es j) x makes.second there makes.second_at in
    record {
      maker = m;
      made = j;
      makes = makes;
      to = ap (λ (e : Entry). e.box_no) (sym same) ∙ box;
      side = ap (is_above plan) (sym same) ∙ side;
      behind = reached;
      before = omega arith;
    }

learned_by : (plan : PlanFields) (es : List Entry) (c : ℕ) (above : Bool) (i j : ℕ) (x : Entry) (known : Option ℕ)
    → slice_get es j ≡ Some x → (IsReached i known → HasLearned plan es c above i j) → (b : Bool)
    → ((x.box_no == c) && same_side above (is_above plan x)) ≡ b
    → IsReached i (if b then later_of known (maker_at plan es j x) else known)
    → HasLearned plan es c above i (suc j)
learned_by plan es c above i j x known there before false is reached =
    still_learned plan es c above i j (before reached)
learned_by plan es c above i j x known there before true is reached =
    let parts = and_parts (x.box_no == c) (same_side above (is_above plan x)) is in
    ⊎_elim (λ (r : IsReached i known). still_learned plan es c above i j (before r))
    (λ (r : IsReached i (maker_at plan es j x)).
    learned_now plan es c above i j x there (eqb-true x.box_no c parts.0)
    (one_side above (is_above plan x) parts.1) (maker_at plan es j x) (nearest_maker plan es j x there) r)
    (reached_by i known (maker_at plan es j x) reached)

learned_after : (plan : PlanFields) (es : List Entry) (c : ℕ) (above : Bool) (i j : ℕ) (known : Option ℕ)
    → (IsReached i known → HasLearned plan es c above i j) → (o : Option Entry) → slice_get es j ≡ o
    → IsReached i (known_after plan es c above j o known) → HasLearned plan es c above i (suc j)
learned_after plan es c above i j known before None there reached = still_learned plan es c above i j (before reached)
learned_after plan es c above i j known before (Some x) there reached =
    learned_by plan es c above i j x known there before _ refl reached

-- what is kept was learned
pub was_learned : (plan : PlanFields) (es : List Entry) (c : ℕ) (above : Bool) (i j : ℕ)
    → IsReached i (known_before plan es c above j) → HasLearned plan es c above i j
was_learned plan es c above i zero reached = absurd reached
was_learned plan es c above i (suc j) reached =
    learned_after plan es c above i j (known_before plan es c above j) (was_learned plan es c above i j)
    (slice_get es j) refl reached

-- nothing that is kept is lost
kept_by_test : (i : ℕ) (known maker : Option ℕ) (b : Bool) → IsReached i known
    → IsReached i (if b then later_of known maker else known)
kept_by_test i known maker true reached = reached_left i known maker reached
kept_by_test i known maker false reached = reached

kept_after : (plan : PlanFields) (es : List Entry) (c : ℕ) (above : Bool) (i j : ℕ) (o : Option Entry)
    (known : Option ℕ) → IsReached i known → IsReached i (known_after plan es c above j o known)
kept_after plan es c above i j None known reached = reached
kept_after plan es c above i j (Some x) known reached =
    kept_by_test i known (maker_at plan es j x) ((x.box_no == c) && same_side above (is_above plan x)) reached

-- the maker of the entry at j is kept
kept_now : (plan : PlanFields) (es : List Entry) (c : ℕ) (above : Bool) (i m j : ℕ) (known : Option ℕ)
    → (makes : MakesPossible plan es m j) → makes.second.box_no ≡ c → is_above plan makes.second ≡ above → i ≤ m
    → IsReached i (known_after plan es c above j (slice_get es j) known)
kept_now plan es c above i m j known makes to side behind =
    let x : Entry = makes.second in
    let maker : Option ℕ = maker_at plan es j x in
    let test : ((x.box_no == c) && same_side above (is_above plan x)) ≡ true =
    and_from (x.box_no == c) (same_side above (is_above plan x)) (eq-eqb x.box_no c to)
    (ap (λ (s : Bool). same_side above s) side ∙ side_itself above) in
    let reached : IsReached i (later_of known maker) =
    reached_right i known maker
    (maker_reaches plan es i m j maker behind (nearest_maker plan es j x makes.second_at) makes) in
    subst (λ (o : Option Entry). IsReached i (known_after plan es c above j o known)) (sym makes.second_at)
    (subst (λ (b : Bool). IsReached i (if b then later_of known maker else known)) (sym test) reached)

-- what was learned is kept
pub is_kept : (plan : PlanFields) (es : List Entry) (c : ℕ) (above : Bool) (i j : ℕ) → HasLearned plan es c above i j
    → IsReached i (known_before plan es c above j)
is_kept plan es c above i zero has = let b = has.before in absurd (omega arith)
is_kept plan es c above i (suc j) has =
    let b = has.before in
    ⊎_elim (λ (now : has.made ≡ j). kept_at has.made has.makes has.to has.side now)
    (λ (differ : has.made ≢ j).
    kept_after plan es c above i j (slice_get es j) (known_before plan es c above j)
    (is_kept plan es c above i j (record {
      maker = has.maker;
      made = has.made;
      makes = has.makes;
      to = has.to;
      side = has.side;
      behind = has.behind;
      before = omega arith;
    })))
    (cases_eq has.made j)
  where
    kept_at : (made : ℕ) (makes : MakesPossible plan es has.maker made) → makes.second.box_no ≡ c
        → is_above plan makes.second ≡ above → made ≡ j
        → IsReached i (known_after plan es c above j (slice_get es j) (known_before plan es c above j))
    kept_at made makes to side now =
        let known : Option ℕ = known_before plan es c above j in
        subst (λ (n : ℕ). IsReached i (known_after plan es c above n (slice_get es n) known)) now
        (kept_now plan es c above i has.maker made known makes to side has.behind)
