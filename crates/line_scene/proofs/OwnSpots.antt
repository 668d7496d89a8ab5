-- Each place that the walk over the places of a box draws stands behind those drawn before it.
use Rattle.std.proofs.Common.{◌≡◌, ◌≢◌, inl, inr, ℕ, zero, suc, ◌+◌, ◌*◌, ◌<◌, ◌≤◌, Bool, true, false, length}
use Rattle.std.proofs.Common.{refl, sym, ap, subst, ◌∙◌, arith, if◌then◌else◌, List}
use Rattle.std.specs.Prelude.{Option, Some, None}
use Rattle.std.proofs.lemmas.Bool.{cases_lt}
use Rattle.std.proofs.lemmas.Bool.Decides.{eqb_tells}
use Rattle.std.proofs.lemmas.List.{get_or-replicate, get_or-set_other, get_or-set_same, get_or_past}
use Rattle.std.proofs.lemmas.List.{length-replicate, length-set}
use Rattle.line_plan.specs.Frames.{BoxFields}
use Rattle.line_plan.specs.declared.signal.Signal.{Signal}
use Rattle.line_scene.specs.declared.walk.Spot.{Spot}
use Rattle.line_scene.specs.declared.walk.Walk.{Walk}
use Rattle.line_scene.specs.Boxes.{spot_at}
use Rattle.line_scene.specs.Diagrams.{begins_row, columns_with, diagram_of, is_drawn, place_to, rows_with, spot_in}
use Rattle.line_scene.specs.Diagrams.{starts_of, walk_begun, walk_by, walk_of, walk_on, walk_to, with_place}
use Rattle.line_scene.specs.Spots.{HasOwnSpots, StandsInDiagram}
use Rattle.line_scene.proofs.NextPlaces.{all_drawn, all_left, behind_undrawn, drawn_where, next_undrawn, no_start}
use Rattle.line_scene.proofs.NextPlaces.{none_left, one_fewer, places_left}

-- ---- the spot of the place that is drawn

-- a spot's number, where five stand in a row
abbrev spot_number : Spot → ℕ
spot_number spot = 5 * spot.row + spot.column

-- the new spot is behind all spots of these rows, of which the last has so many places
record IsBehind (begins : Bool) (rows columns : ℕ) : Type 0 where
  column : (spot_in begins rows columns).column < 5
  behind : 5 * rows + columns ≤ spot_number (spot_in begins rows columns) + 5
  before : spot_number (spot_in begins rows columns) + 5 < 5 * rows_with begins rows + columns_with begins columns
  some : 1 ≤ rows_with begins rows
  more : rows_with begins rows ≤ rows + 1
  few : columns_with begins columns ≤ 5

is_behind : (begins : Bool) (rows columns : ℕ) → columns ≤ 5 → (begins ≡ false → (1 ≤ rows) × (columns < 5))
    → IsBehind begins rows columns
is_behind true rows columns few goes = record {
  column = omega arith;
  behind = omega (arith, few);
  before = omega arith;
  some = omega arith;
  more = omega arith;
  few = omega arith;
}
is_behind false rows columns few goes =
    let some : 1 ≤ rows = (goes refl).0 in
    let less : columns < 5 = (goes refl).1 in
    record {
      column = less;
      behind = omega (arith, some);
      before = omega (arith, some);
      some = some;
      more = omega arith;
      few = omega (arith, less);
    }

-- a row goes on where the road does, and the row isn't full
goes_on_row : (next : Option ℕ) (rows columns : ℕ) → columns ≤ 5 → ((on : ℕ) → next ≡ Some on → 1 ≤ rows)
    → begins_row next columns ≡ false → (1 ≤ rows) × (columns < 5)
goes_on_row None rows columns few some h = cc
goes_on_row (Some on) rows columns few some h = elim (eqb_tells columns 5) [
  | inl full ↦ absurd (let e : true ≡ false = sym full.0 ∙ h in cc)
  | inr short ↦ (some on refl, let no : columns ≢ 5 = short.1 in omega (arith, few, no))
]

-- ---- the walk

-- a place is one of the drawn ones
abbrev IsDrawn : ℕ → Walk → ℕ → Type 0
IsDrawn places walk place = (place < places) × (is_drawn walk.drawn place ≡ true)

-- so many of a box's places are drawn, each at a spot of its own, before where the last row ends
record HasDrawn (places count : ℕ) (walk : Walk) : Type 0 where
  spots : length walk.spots ≡ places
  drawn : length walk.drawn ≡ places
  left : places_left walk.drawn + count ≡ places
  next : (on : ℕ) → walk.next ≡ Some on → is_drawn walk.drawn on ≡ false
  some : (on : ℕ) → walk.next ≡ Some on → 1 ≤ walk.rows
  rows : walk.rows ≤ count
  columns : walk.columns ≤ 5
  column : (place : ℕ) → IsDrawn places walk place → (spot_at walk.spots place).column < 5
  before : (place : ℕ) → IsDrawn places walk place
      → spot_number (spot_at walk.spots place) + 5 < 5 * walk.rows + walk.columns
  own : (one other : ℕ) → IsDrawn places walk one → IsDrawn places walk other → one ≢ other
      → spot_number (spot_at walk.spots one) ≢ spot_number (spot_at walk.spots other)

has_begun : (places : ℕ) → HasDrawn places 0 (walk_begun places)
has_begun places =
    let corner : Spot = record { row = 0; column = 0 } in
    let none : (place : ℕ) → IsDrawn places (walk_begun places) place → ⊥ =
    λ place is. let e : true ≡ false = sym is.1 ∙ get_or-replicate places place false true is.0 in cc in
    record {
      spots = length-replicate places corner;
      drawn = length-replicate places false;
      left = omega (arith, all_left places);
      next = λ on h. cc;
      some = λ on h. cc;
      rows = omega arith;
      columns = omega arith;
      column = λ place is. absurd (none place is);
      before = λ place is. absurd (none place is);
      own = λ one other is also ne. absurd (none one is);
    }

module _ (places count : ℕ) (signals : List Signal) (walk : Walk) (has : HasDrawn places count walk) (place : ℕ)
    (undrawn : is_drawn walk.drawn place ≡ false) (begins : Bool)
    (behind : IsBehind begins walk.rows walk.columns) where
  abbrev drawn_now : Walk
  drawn_now = with_place signals walk place begins

  abbrev new_spot : Spot
  new_spot = spot_in begins walk.rows walk.columns

  is_place : place < length walk.drawn
  is_place = elim (cases_lt place (length walk.drawn)) [
    | inl lt ↦ lt
    | inr past ↦
        let e : false ≡ true = sym undrawn ∙ get_or_past walk.drawn place true past in cc
  ]

  -- the new place stands at the new spot
  new_at : spot_at drawn_now.spots place ≡ new_spot
  new_at =
      let within : place < length walk.spots = omega (arith, is_place, has.spots, has.drawn) in
      get_or-set_same walk.spots place new_spot (record { row = 0; column = 0 }) within

  -- each other place stands where it stood, and was drawn if it is
  old_at : (other : ℕ) → other ≢ place → spot_at drawn_now.spots other ≡ spot_at walk.spots other
  old_at other ne = get_or-set_other walk.spots place other new_spot (record { row = 0; column = 0 }) ne

  was_drawn : (other : ℕ) → other ≢ place → IsDrawn places drawn_now other → IsDrawn places walk other
  was_drawn other ne is = (is.0, sym (get_or-set_other walk.drawn place other true true ne) ∙ is.1)

  new_number : spot_number (spot_at drawn_now.spots place) ≡ spot_number new_spot
  new_number = ap spot_number new_at

  old_number : (other : ℕ) → other ≢ place
      → spot_number (spot_at drawn_now.spots other) ≡ spot_number (spot_at walk.spots other)
  old_number other ne = ap spot_number (old_at other ne)

  old_before : (other : ℕ) → other ≢ place → IsDrawn places drawn_now other
      → spot_number (spot_at drawn_now.spots other) + 5 < 5 * walk.rows + walk.columns
  old_before other ne is =
      let same = old_number other ne in
      let was = has.before other (was_drawn other ne is) in
      omega (arith, same, was)

  now_column : (other : ℕ) → IsDrawn places drawn_now other → (spot_at drawn_now.spots other).column < 5
  now_column other is = elim (eqb_tells other place) [
    | inl same ↦
        let at : spot_at drawn_now.spots other ≡ new_spot =
        ap (λ (p : ℕ). spot_at drawn_now.spots p) same.1 ∙ new_at in
        subst (λ (spot : Spot). spot.column < 5) (sym at) behind.column
    | inr ne ↦
        subst (λ (spot : Spot). spot.column < 5) (sym (old_at other ne.1))
        (has.column other (was_drawn other ne.1 is))
  ]

  now_before : (other : ℕ) → IsDrawn places drawn_now other
      → spot_number (spot_at drawn_now.spots other) + 5 < 5 * drawn_now.rows + drawn_now.columns
  now_before other is = elim (eqb_tells other place) [
    | inl same ↦
        let at : spot_number (spot_at drawn_now.spots other) ≡ spot_number new_spot =
        ap (λ (p : ℕ). spot_number (spot_at drawn_now.spots p)) same.1 ∙ new_number in
        let last = behind.before in
        omega (arith, at, last)
    | inr ne ↦
        let was = old_before other ne.1 is in
        let last = behind.before in
        let all = behind.behind in
        omega (arith, was, last, all)
  ]

  new_other : (other : ℕ) → other ≢ place → IsDrawn places drawn_now other
      → spot_number (spot_at drawn_now.spots other) < spot_number (spot_at drawn_now.spots place)
  new_other other ne is =
      let was = old_before other ne is in
      let all = behind.behind in
      let at = new_number in
      omega (arith, was, all, at)

  now_own : (one other : ℕ) → IsDrawn places drawn_now one → IsDrawn places drawn_now other → one ≢ other
      → spot_number (spot_at drawn_now.spots one) ≢ spot_number (spot_at drawn_now.spots other)
  now_own one other is also differ same = elim (eqb_tells one place) [
    | inl first ↦
        let ne : other ≢ place = λ (e : other ≡ place). differ (first.1 ∙ sym e) in
        let less = new_other other ne also in
        let here : spot_number (spot_at drawn_now.spots one) ≡ spot_number (spot_at drawn_now.spots place) =
        ap (λ (p : ℕ). spot_number (spot_at drawn_now.spots p)) first.1 in
        omega (arith, less, here, same)
    | inr first ↦ elim (eqb_tells other place) [
      | inl second ↦
          let less = new_other one first.1 is in
          let here : spot_number (spot_at drawn_now.spots other) ≡ spot_number (spot_at drawn_now.spots place) =
          ap (λ (p : ℕ). spot_number (spot_at drawn_now.spots p)) second.1 in
          omega (arith, less, here, same)
      | inr second ↦
          has.own one other (was_drawn one first.1 is) (was_drawn other second.1 also) differ
          (sym (old_number one first.1) ∙ same ∙ old_number other second.1)
    ]
  ]

  draws : HasDrawn places (count + 1) drawn_now
  draws =
      let fewer = one_fewer walk.drawn place is_place undrawn in
      let left = has.left in
      let rows = has.rows in
      let more = behind.more in
      record {
        spots = length-set walk.spots place new_spot ∙ has.spots;
        drawn = length-set walk.drawn place true ∙ has.drawn;
        left = omega (arith, fewer, left);
        next = behind_undrawn drawn_now.drawn place signals;
        some = λ on h. behind.some;
        rows = omega (arith, rows, more);
        columns = behind.few;
        column = now_column;
        before = now_before;
        own = now_own;
      }

-- ---- all places of a box

module _ (box_plan : BoxFields) where
  abbrev places_of : ℕ
  places_of = length box_plan.places

  walk_after : (count : ℕ) (walk : Walk) → HasDrawn places_of count walk → count < places_of
      → (place : Option ℕ) → place_to (starts_of box_plan) walk.drawn walk.next ≡ place
      → HasDrawn places_of (count + 1) (walk_to box_plan.signals walk place)
  walk_after count walk has lt None none =
      let all : (place : ℕ) → place < length walk.drawn → is_drawn walk.drawn place ≡ true =
      λ place within.
      all_drawn box_plan walk.drawn place (omega (arith, within, has.drawn))
      (no_start (starts_of box_plan) walk.drawn walk.next none) in
      let nothing = none_left walk.drawn all in
      let left = has.left in
      absurd (omega (arith, nothing, left, lt))
  walk_after count walk has lt (Some place) found =
      let undrawn : is_drawn walk.drawn place ≡ false =
      next_undrawn (starts_of box_plan) walk.drawn walk.next place has.next found in
      let begins = begins_row walk.next walk.columns in
      subst (λ (test : Bool). HasDrawn places_of (count + 1)
      (if test then walk else with_place box_plan.signals walk place begins)) (sym undrawn)
      (draws places_of count box_plan.signals walk has place undrawn begins
      (is_behind begins walk.rows walk.columns has.columns
      (goes_on_row walk.next walk.rows walk.columns has.columns has.some)))

  walked : (count : ℕ) → count ≤ places_of
      → HasDrawn places_of count (walk_by (starts_of box_plan) box_plan.signals places_of count)
  walked zero le = has_begun places_of
  walked (suc count) le =
      let before = walk_by (starts_of box_plan) box_plan.signals places_of count in
      let same : count + 1 ≡ suc count = omega arith in
      subst (λ (n : ℕ). HasDrawn places_of n (walk_on (starts_of box_plan) box_plan.signals before)) same
      (walk_after count before (walked count (omega (arith, le))) (omega (arith, le))
      (place_to (starts_of box_plan) before.drawn before.next) refl)

  all_walked : HasDrawn places_of places_of (walk_of box_plan)
  all_walked = walked places_of (omega arith)

  each_drawn : (place : ℕ) → place < places_of → IsDrawn places_of (walk_of box_plan) place
  each_drawn place lt =
      let left = all_walked.left in
      let long = all_walked.drawn in
      (lt, drawn_where (walk_of box_plan).drawn place (omega (arith, left)) (omega (arith, long, lt)))

  pub own_spots : HasOwnSpots box_plan
  own_spots one other lt also differ same =
      all_walked.own one other (each_drawn one lt) (each_drawn other also) differ (ap spot_number same)

  pub stands_within : StandsInDiagram box_plan
  stands_within place lt =
      let column = all_walked.column place (each_drawn place lt) in
      let before = all_walked.before place (each_drawn place lt) in
      let few = all_walked.columns in
      record { row = omega (arith, before, few); column = column }

  pub few_rows : (diagram_of box_plan).rows ≤ places_of
  few_rows = all_walked.rows
