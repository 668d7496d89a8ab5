-- The walk over the places of a box draws next a place that isn't drawn yet, until all are.
use Rattle.std.proofs.Common.{◌≡◌, ◌⊎◌, inl, inr, ℕ, zero, suc, ◌+◌, ◌<◌, ◌==◌, Bool, true, false, List, [], ◌∷◌}
use Rattle.std.proofs.Common.{◌++◌, length, refl, ap, subst, arith, if◌then◌else◌, slice_set, replicate}
use Rattle.std.specs.Prelude.{Option, Some, None}
use Rattle.std.specs.List.{sum_by}
use Rattle.std.proofs.lemmas.Bool.{cases_lt}
use Rattle.std.proofs.lemmas.List.Sums.{get_or-le-sum_by, sum_by-cons, sum_by-set}
use Rattle.line_plan.specs.Frames.{BoxFields, place_of}
use Rattle.line_plan.specs.declared.signal.Signal.{Signal}
use Rattle.line_plan.specs.declared.signal.To.{To}
use Rattle.line_plan.specs.declared.signal.To.TheVariants as ends
use Rattle.line_scene.specs.Diagrams.{first_of, first_start, goes_on, heads_below, is_drawn, leads_on, place_behind}
use Rattle.line_scene.specs.Diagrams.{place_to, places_below, starts_of}

-- ---- what is drawn next isn't drawn yet

none_or : (test : Bool) (place found : ℕ) → (if test then None else Some place) ≡ Some found
    → (test ≡ false) × (place ≡ found)
none_or true place found h = cc
none_or false place found h = (refl, cc)

leads_undrawn : (drawn : List Bool) (to : To) (place : ℕ) → leads_on drawn to ≡ Some place
    → is_drawn drawn place ≡ false
leads_undrawn drawn (ends.Place at) place h =
    let p = none_or (is_drawn drawn at) at place h in
    subst (λ (n : ℕ). is_drawn drawn n ≡ false) p.1 p.0
leads_undrawn drawn (ends.Section way) place h = cc
leads_undrawn drawn ends.Away place h = cc

then_some : (test : Bool) (one : Option ℕ) (place : ℕ) → (if test then one else None) ≡ Some place → one ≡ Some place
then_some true one place h = h
then_some false one place h = cc

first_or_later : (first later : Option ℕ) (place : ℕ) → first_of first later ≡ Some place
    → (first ≡ Some place) ⊎ (later ≡ Some place)
first_or_later (Some at) later place h = inl h
first_or_later None later place h = inr h

pub behind_undrawn : (drawn : List Bool) (place : ℕ) (signals : List Signal) (next : ℕ)
    → place_behind drawn place signals ≡ Some next → is_drawn drawn next ≡ false
behind_undrawn drawn place [] next h = cc
behind_undrawn drawn place (signal ∷ signals) next h =
    elim (first_or_later (goes_on drawn place signal) (place_behind drawn place signals) next h) [
      | inl here ↦ leads_undrawn drawn signal.to next
          (then_some (signal.from == place) (leads_on drawn signal.to) next here)
      | inr there ↦ behind_undrawn drawn place signals next there
    ]

found_here : (test : Bool) (start : ℕ) (rest : Option ℕ) (place : ℕ) → (if test then rest else Some start) ≡ Some place
    → (rest ≡ Some place) ⊎ ((test ≡ false) × (start ≡ place))
found_here true start rest place h = inl h
found_here false start rest place h = inr (refl, cc)

start_undrawn : (drawn : List Bool) (starts : List ℕ) (place : ℕ) → first_start drawn starts ≡ Some place
    → is_drawn drawn place ≡ false
start_undrawn drawn [] place h = cc
start_undrawn drawn (start ∷ starts) place h =
    elim (found_here (is_drawn drawn start) start (first_start drawn starts) place h) [
      | inl later ↦ start_undrawn drawn starts place later
      | inr here ↦ subst (λ (n : ℕ). is_drawn drawn n ≡ false) here.1 here.0
    ]

pub next_undrawn : (starts : List ℕ) (drawn : List Bool) (next : Option ℕ) (place : ℕ)
    → ((on : ℕ) → next ≡ Some on → is_drawn drawn on ≡ false) → place_to starts drawn next ≡ Some place
    → is_drawn drawn place ≡ false
next_undrawn starts drawn (Some on) place undrawn h = undrawn place h
next_undrawn starts drawn None place undrawn h = start_undrawn drawn starts place h

-- ---- there is a next place until all are drawn

pub no_start : (starts : List ℕ) (drawn : List Bool) (next : Option ℕ) → place_to starts drawn next ≡ None
    → first_start drawn starts ≡ None
no_start starts drawn (Some on) h = cc
no_start starts drawn None h = h

passed : (test : Bool) (start : ℕ) (rest : Option ℕ) → (if test then rest else Some start) ≡ None
    → (test ≡ true) × (rest ≡ None)
passed true start rest h = (refl, h)
passed false start rest h = cc

later_none : (drawn : List Bool) (starts more : List ℕ) → first_start drawn (starts ++ more) ≡ None
    → first_start drawn more ≡ None
later_none drawn [] more h = h
later_none drawn (start ∷ starts) more h =
    later_none drawn starts more (passed (is_drawn drawn start) start (first_start drawn (starts ++ more)) h).1

passes : (test : Bool) (start : ℕ) (rest : Option ℕ) → test ≡ true → rest ≡ None
    → (if test then rest else Some start) ≡ None
passes true start rest is none = none
passes false start rest is none = cc

earlier_none : (drawn : List Bool) (starts more : List ℕ) → first_start drawn (starts ++ more) ≡ None
    → first_start drawn starts ≡ None
earlier_none drawn [] more h = refl
earlier_none drawn (start ∷ starts) more h =
    let p = passed (is_drawn drawn start) start (first_start drawn (starts ++ more)) h in
    passes (is_drawn drawn start) start (first_start drawn starts) p.0 (earlier_none drawn starts more p.1)

below_drawn : (drawn : List Bool) (n place : ℕ) → place < n → first_start drawn (places_below n) ≡ None
    → is_drawn drawn place ≡ true
below_drawn drawn zero place lt h = absurd (omega (arith, lt))
below_drawn drawn (suc n) place lt h = elim (cases_lt place n) [
  | inl before ↦ below_drawn drawn n place before (earlier_none drawn (places_below n) (n ∷ []) h)
  | inr late ↦
      let same : n ≡ place = omega (arith, lt, late) in
      subst (λ (p : ℕ). is_drawn drawn p ≡ true) same
      (passed (is_drawn drawn n) n None (later_none drawn (places_below n) (n ∷ []) h)).0
]

-- where no road begins any more all places of the box are drawn
pub all_drawn : (box_plan : BoxFields) (drawn : List Bool) (place : ℕ) → place < length box_plan.places
    → first_start drawn (starts_of box_plan) ≡ None → is_drawn drawn place ≡ true
all_drawn box_plan drawn place lt h =
    below_drawn drawn (length box_plan.places) place lt
    (later_none drawn
    (place_of box_plan.berth_down ++ place_of box_plan.berth_up
    ++ heads_below box_plan.signals (length box_plan.places)) (places_below (length box_plan.places)) h)

-- ---- how many places aren't drawn yet

abbrev pub one_left : Bool → ℕ
one_left true = 0
one_left false = 1

abbrev pub places_left : List Bool → ℕ
places_left drawn = sum_by one_left drawn

pub none_left : (drawn : List Bool) → ((place : ℕ) → place < length drawn → is_drawn drawn place ≡ true)
    → places_left drawn ≡ 0
none_left [] all = refl
none_left (mark ∷ drawn) all =
    let here : mark ≡ true = all 0 (omega arith) in
    let first : one_left mark ≡ 0 = ap one_left here in
    let rest : places_left drawn ≡ 0 = none_left drawn (λ place lt. all (suc place) (omega (arith, lt))) in
    omega (arith, sum_by-cons one_left mark drawn, first, rest)

pub all_left : (n : ℕ) → places_left (replicate n false) ≡ n
all_left zero = refl
all_left (suc n) = omega (arith, sum_by-cons one_left false (replicate n false), all_left n)

pub one_fewer : (drawn : List Bool) (place : ℕ) → place < length drawn → is_drawn drawn place ≡ false
    → places_left (slice_set drawn place true) + 1 ≡ places_left drawn
one_fewer drawn place lt undrawn =
    let was : one_left (is_drawn drawn place) ≡ 1 = ap one_left undrawn in
    omega (arith, sum_by-set one_left drawn place true true lt, was)

marked : (mark : Bool) → one_left mark ≡ 0 → mark ≡ true
marked true h = refl
marked false h = absurd (omega (arith, h))

pub drawn_where : (drawn : List Bool) (place : ℕ) → places_left drawn ≡ 0 → place < length drawn
    → is_drawn drawn place ≡ true
drawn_where drawn place none lt =
    let least = get_or-le-sum_by one_left drawn place true lt in
    marked (is_drawn drawn place) (omega (arith, least, none))
