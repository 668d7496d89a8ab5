-- Each finding is found exactly where it is so.
use Rattle.std.proofs.Common.{◌≡◌, ◌≢◌, ◌⊎◌, ◌↔◌, ℕ, zero, suc, ◌+◌, ◌-◌, ◌<◌, ◌≤◌, Bool, true, false, not, ◌&&◌, List}
use Rattle.std.proofs.Common.{[], ◌∷◌, ◌++◌, Option, None, Some, IsTrue, length, get_or, if◌then◌else◌, refl, sym, ap}
use Rattle.std.proofs.Common.{subst, ◌∙◌, arith, inl, inr}
use Rattle.std.specs.Prelude.{Contains, IsSome, IsNone, nat_lt}
use Rattle.std.specs.List.{flat_map}
use Rattle.std.proofs.lemmas.Bool.Decides.{eqb_tells, nat_tests}
use Rattle.std.proofs.lemmas.List.Elements.{All-get_or, Contains-append_cases, Contains-append_left}
use Rattle.std.proofs.lemmas.List.Elements.{Contains-append_right, Contains-push, Contains-push_cases}
use Rattle.block_words.specs.declared.Way.{Way}
use Rattle.block_words.specs.declared.Way.TheVariants.{Up, Down}
use Rattle.locking_table.specs.Sound.{IsRow, RowFits}
use Rattle.locking_table.specs.declared.row.Row.{Row}
use Rattle.line_plan.specs.Frames.{BoxFields, frame_size}
use Rattle.line_plan.specs.Plans.{IsBoxRow, IsPlan, PlanFields, box_at, no_box}
use Rattle.line_plan.specs.Sections.{IsSection, section_berth, section_starter, sections_from, sections_of}
use Rattle.line_plan.specs.Ways.{leaves}
use Rattle.line_plan.specs.declared.berth.Berth.{Berth}
use Rattle.line_plan.specs.declared.frame.Kind.{Kind}
use Rattle.line_plan.specs.declared.frame.Kind.TheVariants as kinds
use Rattle.line_plan.specs.declared.frame.Lever.{Lever}
use Rattle.line_plan.specs.declared.section.Section.{Section}
use Rattle.line_plan.specs.declared.signal.Signal.{Signal}
use Rattle.line_law.proofs.PlanFacts.{sound}
use Rattle.plan_check.specs.Clashes.{Clash, do_clash}
use Rattle.plan_check.specs.Found.{box_findings, boxes_findings, clash_findings, clashes_from, clashes_with}
use Rattle.plan_check.specs.Found.{findings_of, gap_findings, is_spare, lever_findings, section_findings, stands_in}
use Rattle.plan_check.specs.FindingFacts.{AreFindings, HasNoRow, LacksBerth, LacksStarter, RowsClashAt, no_row, row_at}
use Rattle.plan_check.specs.declared.finding.Finding.{Finding}
use Rattle.plan_check.specs.declared.finding.Finding.TheVariants.{RowsClash, LeverWithoutRow, NoBerth, NoStarter}
use Rattle.plan_check.proofs.Meeting.{clashes_exactly, meets_clash}
use Rattle.plan_check.proofs.Places.{down_is, up_is}

-- ---- lists of one or none

none_in : {X : Type 0} (x : X) → ¬ Contains [] x
none_in x h = let lt = h.1 in omega (arith, lt)

one_in : {X : Type 0} (y x : X) → Contains (y ∷ []) x → y ≡ x
one_in y x h = elim (Contains-push_cases [] y x h) [ inl none ↦ absurd (none_in x none) | inr e ↦ e ]

here : {X : Type 0} (x : X) → Contains (x ∷ []) x
here x = Contains-push [] x

if_in : (b : Bool) (y x : Finding) → Contains (if b then y ∷ [] else []) x → (b ≡ true) × (y ≡ x)
if_in true y x h = (refl, one_in y x h)
if_in false y x h = absurd (none_in x h)

in_if : (b : Bool) (x : Finding) → b ≡ true → Contains (if b then x ∷ [] else []) x
in_if b x e = rw e (here x)

-- ---- rows

-- two of the rows meet the test, the first of them before the second
record ArePair (rows : List Row) (i k : ℕ) : Type 0 where
  order : i < k
  high : k < length rows
  meets : do_clash (get_or rows i no_row) (get_or rows k no_row) ≡ true

record WithIn (b n m : ℕ) (row : Row) (rows : List Row) (x : Finding) : Type 0 where
  k : ℕ
  high : k < length rows
  meets : do_clash row (get_or rows k no_row) ≡ true
  is : RowsClash b n (m + k) row.subject ≡ x

with_in : (b n : ℕ) (row : Row) (m : ℕ) (rows : List Row) (x : Finding) → Contains (clashes_with b n row m rows) x
    → WithIn b n m row rows x
with_in b n row m [] x h = absurd (none_in x h)
with_in b n row m (later ∷ rows) x h =
    elim (Contains-append_cases (clash_findings b n row m later) (clashes_with b n row (m + 1) rows) x h) [
      | inl first ↦
          let p = if_in (do_clash row later) (RowsClash b n m row.subject) x first in
          let same : m + 0 ≡ m = omega arith in
          record { k = 0; high = omega arith; meets = p.0; is = ap (λ (s : ℕ). RowsClash b n s row.subject) same ∙ p.1 }
      | inr others ↦
          let q = with_in b n row (m + 1) rows x others in
          let high = q.high in
          let same : m + suc q.k ≡ m + 1 + q.k = omega arith in
          record {
            k = suc q.k;
            high = omega (arith, high);
            meets = q.meets;
            is =
                ap (λ (s : ℕ). RowsClash b n s row.subject) same ∙ q.is;
          }
    ]

in_with : (b n : ℕ) (row : Row) (m : ℕ) (rows : List Row) (k : ℕ) → k < length rows
    → do_clash row (get_or rows k no_row) ≡ true
    → Contains (clashes_with b n row m rows) (RowsClash b n (m + k) row.subject)
in_with b n row m [] k lt h = absurd (omega (arith, lt))
in_with b n row m (later ∷ rows) zero lt h =
    let same : m ≡ m + 0 = omega arith in
    subst (λ (s : ℕ). Contains (clashes_with b n row m (later ∷ rows)) (RowsClash b n s row.subject)) same
    (Contains-append_left (clash_findings b n row m later) (clashes_with b n row (m + 1) rows)
    (RowsClash b n m row.subject) (in_if (do_clash row later) (RowsClash b n m row.subject) h))
in_with b n row m (later ∷ rows) (suc k) lt h =
    let same : m + 1 + k ≡ m + suc k = omega arith in
    subst (λ (s : ℕ). Contains (clashes_with b n row m (later ∷ rows)) (RowsClash b n s row.subject)) same
    (Contains-append_right (clash_findings b n row m later) (clashes_with b n row (m + 1) rows)
    (RowsClash b n (m + 1 + k) row.subject) (in_with b n row (m + 1) rows k (omega (arith, lt)) h))

record FromIn (b n : ℕ) (rows : List Row) (x : Finding) : Type 0 where
  i : ℕ
  k : ℕ
  pair : ArePair rows i k
  is : RowsClash b (n + i) (n + k) (get_or rows i no_row).subject ≡ x

from_in : (b n : ℕ) (rows : List Row) (x : Finding) → Contains (clashes_from b n rows) x → FromIn b n rows x
from_in b n [] x h = absurd (none_in x h)
from_in b n (row ∷ rows) x h =
    elim (Contains-append_cases (clashes_with b n row (n + 1) rows) (clashes_from b (n + 1) rows) x h) [
      | inl first ↦
          let q = with_in b n row (n + 1) rows x first in
          let high = q.high in
          let low : n + 0 ≡ n = omega arith in
          let same : n + suc q.k ≡ n + 1 + q.k = omega arith in
          record {
            i = 0;
            k = suc q.k;
            pair = record { order = omega arith; high = omega (arith, high); meets = q.meets };
            is = ap (λ (s : ℕ). RowsClash b s (n + suc q.k) row.subject) low
                ∙ ap (λ (s : ℕ). RowsClash b n s row.subject) same ∙ q.is;
          }
      | inr others ↦
          let q = from_in b (n + 1) rows x others in
          let order = q.pair.order in
          let high = q.pair.high in
          let low : n + suc q.i ≡ n + 1 + q.i = omega arith in
          let same : n + suc q.k ≡ n + 1 + q.k = omega arith in
          record {
            i = suc q.i;
            k = suc q.k;
            pair = record { order = omega (arith, order); high = omega (arith, high); meets = q.pair.meets };
            is = ap (λ (s : ℕ). RowsClash b s (n + suc q.k) (get_or rows q.i no_row).subject) low
                ∙ ap (λ (s : ℕ). RowsClash b (n + 1 + q.i) s (get_or rows q.i no_row).subject) same ∙ q.is;
          }
    ]

in_from : (b n : ℕ) (rows : List Row) (i k : ℕ) → i < k → k < length rows
    → do_clash (get_or rows i no_row) (get_or rows k no_row) ≡ true
    → Contains (clashes_from b n rows) (RowsClash b (n + i) (n + k) (get_or rows i no_row).subject)
in_from b n [] i k order high h = absurd (omega (arith, high))
in_from b n (row ∷ rows) i zero order high h = absurd (omega (arith, order))
in_from b n (row ∷ rows) zero (suc k) order high h =
    let low : n ≡ n + 0 = omega arith in
    let same : n + 1 + k ≡ n + suc k = omega arith in
    subst (λ (s : ℕ). Contains (clashes_from b n (row ∷ rows)) (RowsClash b s (n + suc k) row.subject)) low
    (subst (λ (s : ℕ). Contains (clashes_from b n (row ∷ rows)) (RowsClash b n s row.subject)) same
    (Contains-append_left (clashes_with b n row (n + 1) rows) (clashes_from b (n + 1) rows)
    (RowsClash b n (n + 1 + k) row.subject) (in_with b n row (n + 1) rows k (omega (arith, high)) h)))
in_from b n (row ∷ rows) (suc i) (suc k) order high h =
    let low : n + 1 + i ≡ n + suc i = omega arith in
    let same : n + 1 + k ≡ n + suc k = omega arith in
    let subject : ℕ = (get_or rows i no_row).subject in
    subst (λ (s : ℕ). Contains (clashes_from b n (row ∷ rows)) (RowsClash b s (n + suc k) subject)) low
    (subst (λ (s : ℕ). Contains (clashes_from b n (row ∷ rows)) (RowsClash b (n + 1 + i) s subject)) same
    (Contains-append_right (clashes_with b n row (n + 1) rows) (clashes_from b (n + 1) rows)
    (RowsClash b (n + 1 + i) (n + 1 + k) subject)
    (in_from b (n + 1) rows i k (omega (arith, order)) (omega (arith, high)) h)))

-- ---- levers

and_parts : (a b : Bool) → (not a && not b) ≡ true → (a ≡ false) × (b ≡ false)
and_parts false false h = (refl, refl)
and_parts false true h = cc
and_parts true b h = cc

and_whole : (a b : Bool) → a ≡ false → b ≡ false → (not a && not b) ≡ true
and_whole a b e f = rw (e, f) refl

record LeverIn (b : ℕ) (rows : List Row) (levers : List Lever) (x : Finding) : Type 0 where
  lever : Lever
  there : Contains levers lever
  works : is_spare lever.kind ≡ false
  row : stands_in rows lever.number ≡ false
  is : LeverWithoutRow b lever.number ≡ x

levers_in : (b : ℕ) (rows : List Row) (levers : List Lever) (x : Finding)
    → Contains (flat_map (lever_findings b rows) levers) x → LeverIn b rows levers x
levers_in b rows [] x h = absurd (none_in x h)
levers_in b rows (lever ∷ levers) x h =
    elim (Contains-append_cases (lever_findings b rows lever) (flat_map (lever_findings b rows) levers) x h) [
      | inl first ↦
          let p = if_in (not (is_spare lever.kind) && not (stands_in rows lever.number))
          (LeverWithoutRow b lever.number) x
          first in
          let parts = and_parts (is_spare lever.kind) (stands_in rows lever.number) p.0 in
          record {
            lever = lever;
            there = Contains-append_left (lever ∷ []) levers lever (here lever);
            works =
                parts.0;
            row = parts.1;
            is = p.1;
          }
      | inr others ↦
          let q = levers_in b rows levers x others in
          record {
            lever = q.lever;
            there = Contains-append_right (lever ∷ []) levers q.lever q.there;
            works =
                q.works;
            row = q.row;
            is = q.is;
          }
    ]

in_levers : (b : ℕ) (rows : List Row) (levers : List Lever) (lever : Lever) → Contains levers lever
    → is_spare lever.kind ≡ false → stands_in rows lever.number ≡ false
    → Contains (flat_map (lever_findings b rows) levers) (LeverWithoutRow b lever.number)
in_levers b rows [] lever there works row = absurd (none_in lever there)
in_levers b rows (first ∷ levers) lever there works row = elim (Contains-append_cases (first ∷ []) levers lever there) [
  | inl one ↦
      let same : first ≡ lever = one_in first lever one in
      let found : Contains (lever_findings b rows lever) (LeverWithoutRow b lever.number) =
      in_if (not (is_spare lever.kind) && not (stands_in rows lever.number)) (LeverWithoutRow b lever.number)
      (and_whole (is_spare lever.kind) (stands_in rows lever.number) works row) in
      Contains-append_left (lever_findings b rows first) (flat_map (lever_findings b rows) levers)
      (LeverWithoutRow b lever.number)
      (subst (λ (l : Lever). Contains (lever_findings b rows l) (LeverWithoutRow b lever.number)) (sym same) found)
  | inr others ↦
      Contains-append_right (lever_findings b rows first) (flat_map (lever_findings b rows) levers)
      (LeverWithoutRow b lever.number) (in_levers b rows levers lever others works row)
]

-- ---- boxes

record BoxIn (b : ℕ) (boxes : List BoxFields) (x : Finding) : Type 0 where
  j : ℕ
  high : j < length boxes
  found : Contains (box_findings (b + j) (get_or boxes j no_box)) x

boxes_in : (b : ℕ) (boxes : List BoxFields) (x : Finding) → Contains (boxes_findings b boxes) x → BoxIn b boxes x
boxes_in b [] x h = absurd (none_in x h)
boxes_in b (box_plan ∷ boxes) x h =
    elim (Contains-append_cases (box_findings b box_plan) (boxes_findings (b + 1) boxes) x h) [
      | inl first ↦
          let same : b ≡ b + 0 = omega arith in
          record {
            j = 0;
            high = omega arith;
            found =
                subst (λ (n : ℕ). Contains (box_findings n box_plan) x) same first;
          }
      | inr others ↦
          let q = boxes_in (b + 1) boxes x others in
          let high = q.high in
          let same : b + 1 + q.j ≡ b + suc q.j = omega arith in
          record {
            j = suc q.j;
            high = omega (arith, high);
            found =
                subst (λ (n : ℕ). Contains (box_findings n (get_or boxes q.j no_box)) x) same q.found;
          }
    ]

in_boxes : (b : ℕ) (boxes : List BoxFields) (j : ℕ) (x : Finding) → j < length boxes
    → Contains (box_findings (b + j) (get_or boxes j no_box)) x → Contains (boxes_findings b boxes) x
in_boxes b [] j x lt h = absurd (omega (arith, lt))
in_boxes b (box_plan ∷ boxes) zero x lt h =
    let same : b + 0 ≡ b = omega arith in
    Contains-append_left (box_findings b box_plan) (boxes_findings (b + 1) boxes) x
    (subst (λ (n : ℕ). Contains (box_findings n box_plan) x) same h)
in_boxes b (box_plan ∷ boxes) (suc j) x lt h =
    let same : b + suc j ≡ b + 1 + j = omega arith in
    Contains-append_right (box_findings b box_plan) (boxes_findings (b + 1) boxes) x
    (in_boxes (b + 1) boxes j x (omega (arith, lt))
    (subst (λ (n : ℕ). Contains (box_findings n (get_or boxes j no_box)) x) same h))

-- ---- sections

abbrev down_at : ℕ → Section
down_at p = record { rear = p; way = Down }

abbrev up_at : ℕ → Section
up_at p = record { rear = p + 1; way = Up }

record SectionIn (plan : PlanFields) (b n : ℕ) (x : Finding) : Type 0 where
  p : ℕ
  low : b ≤ p
  high : p < b + n
  found : Contains (section_findings plan (down_at p)) x ⊎ Contains (section_findings plan (up_at p)) x

sections_in : (plan : PlanFields) (b n : ℕ) (x : Finding)
    → Contains (flat_map (section_findings plan) (sections_from b n)) x → SectionIn plan b n x
sections_in plan b zero x h = absurd (none_in x h)
sections_in plan b (suc n) x h =
    let rest : List Finding = flat_map (section_findings plan) (sections_from (b + 1) n) in
    elim (Contains-append_cases (section_findings plan (down_at b)) (section_findings plan (up_at b) ++ rest) x h) [
      | inl down ↦ record { p = b; low = omega arith; high = omega arith; found = inl down }
      | inr others ↦ elim (Contains-append_cases (section_findings plan (up_at b)) rest x others) [
        | inl up ↦ record { p = b; low = omega arith; high = omega arith; found = inr up }
        | inr later ↦
            let q = sections_in plan (b + 1) n x later in
            let low = q.low in
            let high = q.high in
            record { p = q.p; low = omega (arith, low); high = omega (arith, high); found = q.found }
      ]
    ]

in_sections : (plan : PlanFields) (b n p : ℕ) (x : Finding) → b ≤ p → p < b + n
    → Contains (section_findings plan (down_at p)) x ⊎ Contains (section_findings plan (up_at p)) x
    → Contains (flat_map (section_findings plan) (sections_from b n)) x
in_sections plan b zero p x low high h = absurd (omega (arith, low, high))
in_sections plan b (suc n) p x low high h =
    let rest : List Finding = flat_map (section_findings plan) (sections_from (b + 1) n) in
    elim (eqb_tells p b) [
      | inl same ↦
          let at = subst
          (λ (q : ℕ). Contains (section_findings plan (down_at q)) x ⊎ Contains (section_findings plan (up_at q)) x)
          same.1 h in
          elim at [
            | inl down ↦
                Contains-append_left (section_findings plan (down_at b)) (section_findings plan (up_at b) ++ rest) x
                down
            | inr up ↦
                Contains-append_right (section_findings plan (down_at b)) (section_findings plan (up_at b) ++ rest) x
                (Contains-append_left (section_findings plan (up_at b)) rest x up)
          ]
      | inr differ ↦
          let apart = differ.1 in
          Contains-append_right (section_findings plan (down_at b)) (section_findings plan (up_at b) ++ rest) x
          (Contains-append_right (section_findings plan (up_at b)) rest x
          (in_sections plan (b + 1) n p x (omega (arith, low, apart)) (omega (arith, high)) h))
    ]

record IsGap (section : Section) (s : Option Signal) (b : Option Berth) (x : Finding) : Type 0 where
  is : ((NoBerth section ≡ x) × IsSome s × IsNone b) ⊎ ((NoStarter section ≡ x) × IsNone s × IsSome b)

gap_in : (section : Section) (s : Option Signal) (b : Option Berth) (x : Finding)
    → Contains (gap_findings section s b) x → IsGap section s b x
gap_in section None None x h = absurd (none_in x h)
gap_in section None (Some berth) x h = record { is = inr (one_in (NoStarter section) x h, refl, refl) }
gap_in section (Some starter) None x h = record { is = inl (one_in (NoBerth section) x h, refl, refl) }
gap_in section (Some starter) (Some berth) x h = absurd (none_in x h)

in_no_berth : (section : Section) (s : Option Signal) (b : Option Berth) → IsSome s → IsNone b
    → Contains (gap_findings section s b) (NoBerth section)
in_no_berth section (Some starter) None some none = here (NoBerth section)
in_no_berth section (Some starter) (Some berth) some none = cc
in_no_berth section None b some none = cc

in_no_starter : (section : Section) (s : Option Signal) (b : Option Berth) → IsNone s → IsSome b
    → Contains (gap_findings section s b) (NoStarter section)
in_no_starter section None (Some berth) none some = here (NoStarter section)
in_no_starter section None None none some = cc
in_no_starter section (Some starter) b none some = cc

-- ---- all findings

-- a finding stands in some box, or at some section
record IsIn (plan : PlanFields) (x : Finding) : Type 0 where
  is : BoxIn 0 plan.boxes x ⊎ SectionIn plan 0 (length plan.boxes - 1) x

is_in : (plan : PlanFields) (x : Finding) → Contains (findings_of plan) x → IsIn plan x
is_in plan x h =
    elim (Contains-append_cases (boxes_findings 0 plan.boxes) (flat_map (section_findings plan) (sections_of plan)) x
    h) [
      | inl boxes ↦ record { is = inl (boxes_in 0 plan.boxes x boxes) }
      | inr sections ↦ record { is = inr (sections_in plan 0 (length plan.boxes - 1) x sections) }
    ]

-- what is found in a box
record BoxKind (b : ℕ) (box_plan : BoxFields) (x : Finding) : Type 0 where
  is : FromIn b 1 box_plan.rows x ⊎ LeverIn b box_plan.rows box_plan.levers x

box_kind : (b : ℕ) (box_plan : BoxFields) (x : Finding) → Contains (box_findings b box_plan) x → BoxKind b box_plan x
box_kind b box_plan x h =
    elim (Contains-append_cases (clashes_from b 1 box_plan.rows)
    (flat_map (lever_findings b box_plan.rows) box_plan.levers) x h) [
      | inl rows ↦ record { is = inl (from_in b 1 box_plan.rows x rows) }
      | inr levers ↦ record { is = inr (levers_in b box_plan.rows box_plan.levers x levers) }
    ]

-- what is found at a section
record SectionKind (plan : PlanFields) (x : Finding) : Type 0 where
  section : Section
  there : IsSection plan section
  gap : IsGap section (section_starter plan section) (section_berth plan section) x

section_kind : (plan : PlanFields) (x : Finding) → SectionIn plan 0 (length plan.boxes - 1) x → SectionKind plan x
section_kind plan x h =
    let high = h.high in
    let within : h.p + 1 < length plan.boxes = omega (arith, high) in
    elim h.found [
      | inl down ↦
          record {
            section = down_at h.p;
            there = down_is plan h.p within;
            gap =
                gap_in (down_at h.p) (section_starter plan (down_at h.p)) (section_berth plan (down_at h.p)) x down;
          }
      | inr up ↦
          record {
            section = up_at h.p;
            there = up_is plan h.p within;
            gap =
                gap_in (up_at h.p) (section_starter plan (up_at h.p)) (section_berth plan (up_at h.p)) x up;
          }
    ]

-- a finding of a box is one on the plan
box_found : (plan : PlanFields) (b : ℕ) (x : Finding) → b < length plan.boxes
    → Contains (box_findings b (box_at plan.boxes b)) x → Contains (findings_of plan) x
box_found plan b x lt h =
    let same : b ≡ 0 + b = omega arith in
    Contains-append_left (boxes_findings 0 plan.boxes) (flat_map (section_findings plan) (sections_of plan)) x
    (in_boxes 0 plan.boxes b x lt (subst (λ (n : ℕ). Contains (box_findings n (box_at plan.boxes b)) x) same h))

-- which pair a section lies at
record PairOf (plan : PlanFields) (section : Section) : Type 0 where
  p : ℕ
  high : p < 0 + (length plan.boxes - 1)
  is : (section ≡ down_at p) ⊎ (section ≡ up_at p)

pair_of : (plan : PlanFields) (section : Section) (way : Way) → section.way ≡ way → IsSection plan section
    → PairOf plan section
pair_of plan section Down e is =
    let leaves_down : nat_lt (section.rear + 1) (length plan.boxes) ≡ true =
    subst (λ (w : Way). IsTrue (leaves (length plan.boxes) section.rear w)) e is in
    let lt : section.rear + 1 < length plan.boxes = grind (arith, nat_tests) in
    record {
      p = section.rear;
      high = omega (arith, lt);
      is =
          inl (ap (λ (w : Way). let s : Section = record { rear = section.rear; way = w } in s) e);
    }
pair_of plan section Up e is =
    let leaves_up : (nat_lt 0 section.rear && nat_lt section.rear (length plan.boxes)) ≡ true =
    subst (λ (w : Way). IsTrue (leaves (length plan.boxes) section.rear w)) e is in
    let low : 0 < section.rear = grind (arith, nat_tests) in
    let lt : section.rear < length plan.boxes = grind (arith, nat_tests) in
    let same : section.rear ≡ section.rear - 1 + 1 = omega (arith, low) in
    record {
      p = section.rear - 1;
      high = omega (arith, low, lt);
      is = inr (ap (λ (w : Way). let s : Section = record { rear = section.rear; way = w } in s) e
          ∙ ap (λ (r : ℕ). let s : Section = record { rear = r; way = Up } in s) same);
    }

-- a finding at a section of the line is one on the plan
section_found : (plan : PlanFields) (section : Section) (x : Finding) → IsSection plan section
    → Contains (section_findings plan section) x → Contains (findings_of plan) x
section_found plan section x is h =
    let at = pair_of plan section section.way refl is in
    Contains-append_right (boxes_findings 0 plan.boxes) (flat_map (section_findings plan) (sections_of plan)) x
    (in_sections plan 0 (length plan.boxes - 1) at.p x (omega arith) at.high (elim at.is [
      | inl down ↦ inl (subst (λ (s : Section). Contains (section_findings plan s) x) down h)
      | inr up ↦ inr (subst (λ (s : Section). Contains (section_findings plan s) x) up h)
    ]))

-- ---- rows that clash

-- by the numbers that the finding tells
clash_at : (plan : PlanFields) (b first second lever j : ℕ) → j < length plan.boxes
    → FromIn (0 + j) 1 (box_at plan.boxes j).rows (RowsClash b first second lever)
    → RowsClashAt plan b first second lever
clash_at plan b first second lever j lt h =
    let e = h.is in
    let box_no : 0 + j ≡ b = cc in
    let low : 1 + h.i ≡ first = cc in
    let high : 1 + h.k ≡ second = cc in
    let subject : (get_or (box_at plan.boxes j).rows h.i no_row).subject ≡ lever = cc in
    let same : j ≡ b = omega (arith, box_no) in
    let number : h.i ≡ first - 1 = omega (arith, low) in
    let other : h.k ≡ second - 1 = omega (arith, high) in
    let order = h.pair.order in
    let last = h.pair.high in
    subst (λ (n : ℕ). RowsClashAt plan n first second lever) same (record {
      box_no = lt;
      low = omega (arith, low);
      order = omega (arith, low, high, order);
      high = omega (arith, high, last);
      clash = subst
          (λ (n : ℕ). Clash (frame_size (box_at plan.boxes j).levers) (get_or (box_at plan.boxes j).rows n no_row)
          (row_at (box_at plan.boxes j) second)) number
          (subst (λ (n : ℕ). Clash (frame_size (box_at plan.boxes j).levers)
          (get_or (box_at plan.boxes j).rows h.i no_row) (get_or (box_at plan.boxes j).rows n no_row)) other
          (meets_clash (frame_size (box_at plan.boxes j).levers) (get_or (box_at plan.boxes j).rows h.i no_row)
          (get_or (box_at plan.boxes j).rows h.k no_row) h.pair.meets));
      subject = subst (λ (n : ℕ). (get_or (box_at plan.boxes j).rows n no_row).subject ≡ lever) number subject;
    })

clash_told : (plan : PlanFields) (b first second lever : ℕ)
    → Contains (findings_of plan) (RowsClash b first second lever) → RowsClashAt plan b first second lever
clash_told plan b first second lever h =
    let x : Finding = RowsClash b first second lever in
    elim (is_in plan x h).is [
      | inl box ↦ elim (box_kind (0 + box.j) (get_or plan.boxes box.j no_box) x box.found).is [
        | inl rows ↦ clash_at plan b first second lever box.j box.high rows
        | inr levers ↦ let e = levers.is in cc
      ]
      | inr section ↦
          let gap = (section_kind plan x section).gap in
          elim gap.is [ inl p ↦ let e = p.0 in cc | inr p ↦ let e = p.0 in cc ]
    ]

-- what a plan says of a row
record RowIn (plan : PlanFields) (b : ℕ) (row : Row) : Type 0 where
  spelled : IsRow row
  fits : RowFits (frame_size (box_at plan.boxes b).levers) row

row_in : (plan : PlanFields) (b k : ℕ) → IsPlan plan → b < length plan.boxes → k < length (box_at plan.boxes b).rows
    → RowIn plan b (get_or (box_at plan.boxes b).rows k no_row)
row_in plan b k is lt high =
    let box_is = is.each b lt in
    record {
      spelled =
          (All-get_or (IsBoxRow (box_at plan.boxes b)) (box_at plan.boxes b).rows k no_row high box_is.rows).spelled;
      fits = All-get_or (RowFits (frame_size (box_at plan.boxes b).levers)) (box_at plan.boxes b).rows k no_row high
          (sound (length plan.boxes) b (box_at plan.boxes b) box_is).rows;
    }

clash_found : (plan : PlanFields) (b first second lever : ℕ) → IsPlan plan → RowsClashAt plan b first second lever
    → Contains (findings_of plan) (RowsClash b first second lever)
clash_found plan b first second lever is h =
    let rows : List Row = (box_at plan.boxes b).rows in
    let low = h.low in
    let order = h.order in
    let high = h.high in
    let within : second - 1 < length rows = omega (arith, low, order, high) in
    let before : first - 1 < second - 1 = omega (arith, low, order) in
    let one = row_in plan b (first - 1) is h.box_no (omega (arith, before, within)) in
    let two = row_in plan b (second - 1) is h.box_no within in
    let meets =
    (clashes_exactly (frame_size (box_at plan.boxes b).levers) (row_at (box_at plan.boxes b) first)
    (row_at (box_at plan.boxes b) second) one.spelled two.spelled one.fits two.fits).1 h.clash in
    let found = in_from b 1 rows (first - 1) (second - 1) before within meets in
    let number : 1 + (first - 1) ≡ first = omega (arith, low) in
    let other : 1 + (second - 1) ≡ second = omega (arith, low, order) in
    box_found plan b (RowsClash b first second lever) h.box_no
    (Contains-append_left (clashes_from b 1 rows) (flat_map (lever_findings b rows) (box_at plan.boxes b).levers)
    (RowsClash b first second lever)
    (subst (λ (s : ℕ). Contains (clashes_from b 1 rows) (RowsClash b first second s)) h.subject
    (subst (λ (n : ℕ). Contains (clashes_from b 1 rows)
    (RowsClash b first n (row_at (box_at plan.boxes b) first).subject)) other
    (subst (λ (n : ℕ). Contains (clashes_from b 1 rows)
    (RowsClash b n (1 + (second - 1)) (row_at (box_at plan.boxes b) first).subject)) number found))))

-- two rows are found to clash exactly where they do
pub clash_exactly : (plan : PlanFields) (b first second lever : ℕ) → IsPlan plan
    → (Contains (findings_of plan) (RowsClash b first second lever) ↔ RowsClashAt plan b first second lever)
clash_exactly plan b first second lever is =
    (clash_told plan b first second lever, clash_found plan b first second lever is)

-- ---- levers without a row

works_not : (kind : Kind) → is_spare kind ≡ false → kind ≢ kinds.Spare
works_not kinds.Spare h e = cc
works_not kinds.Signal h e = cc
works_not kinds.Points h e = cc
works_not kinds.Lock h e = cc
works_not kinds.Distant h e = cc

not_works : (kind : Kind) → kind ≢ kinds.Spare → is_spare kind ≡ false
not_works kinds.Spare h = absurd (h refl)
not_works kinds.Signal h = refl
not_works kinds.Points h = refl
not_works kinds.Lock h = refl
not_works kinds.Distant h = refl

lever_at : (plan : PlanFields) (b lever j : ℕ) → j < length plan.boxes
    → LeverIn (0 + j) (box_at plan.boxes j).rows (box_at plan.boxes j).levers (LeverWithoutRow b lever)
    → HasNoRow plan b lever
lever_at plan b lever j lt h =
    let e = h.is in
    let box_no : 0 + j ≡ b = cc in
    let number : h.lever.number ≡ lever = cc in
    let same : j ≡ b = omega (arith, box_no) in
    let whole : h.lever ≡ (let l : Lever = record { number = lever; kind = h.lever.kind } in l) =
    ap (λ (n : ℕ). let l : Lever = record { number = n; kind = h.lever.kind } in l) number in
    subst (λ (n : ℕ). HasNoRow plan n lever) same (record {
      box_no = lt;
      kind = h.lever.kind;
      there = subst (λ (l : Lever). Contains (box_at plan.boxes j).levers l) whole h.there;
      works = works_not h.lever.kind h.works;
      row = subst (λ (n : ℕ). stands_in (box_at plan.boxes j).rows n ≡ false) number h.row;
    })

lever_told : (plan : PlanFields) (b lever : ℕ) → Contains (findings_of plan) (LeverWithoutRow b lever)
    → HasNoRow plan b lever
lever_told plan b lever h =
    let x : Finding = LeverWithoutRow b lever in
    elim (is_in plan x h).is [
      | inl box ↦ elim (box_kind (0 + box.j) (get_or plan.boxes box.j no_box) x box.found).is [
        | inl rows ↦ let e = rows.is in cc
        | inr levers ↦ lever_at plan b lever box.j box.high levers
      ]
      | inr section ↦
          let gap = (section_kind plan x section).gap in
          elim gap.is [ inl p ↦ let e = p.0 in cc | inr p ↦ let e = p.0 in cc ]
    ]

lever_found : (plan : PlanFields) (b lever : ℕ) → HasNoRow plan b lever
    → Contains (findings_of plan) (LeverWithoutRow b lever)
lever_found plan b lever h =
    let here_box : BoxFields = box_at plan.boxes b in
    box_found plan b (LeverWithoutRow b lever) h.box_no
    (Contains-append_right (clashes_from b 1 here_box.rows) (flat_map (lever_findings b here_box.rows) here_box.levers)
    (LeverWithoutRow b lever)
    (in_levers b here_box.rows here_box.levers (record { number = lever; kind = h.kind }) h.there
    (not_works h.kind h.works) h.row))

-- a lever is found to have no row exactly where it has none
pub lever_exactly : (plan : PlanFields) (b lever : ℕ)
    → (Contains (findings_of plan) (LeverWithoutRow b lever) ↔ HasNoRow plan b lever)
lever_exactly plan b lever = (lever_told plan b lever, lever_found plan b lever)

-- ---- sections

-- no section's finding stands in a box
box_is_none : (b : ℕ) (box_plan : BoxFields) (section : Section)
    → (Contains (box_findings b box_plan) (NoBerth section) → ⊥)
    × (Contains (box_findings b box_plan) (NoStarter section) → ⊥)
box_is_none b box_plan section = (
  λ h. elim (box_kind b box_plan (NoBerth section) h).is [
    | inl rows ↦ let e = rows.is in cc
    | inr levers ↦ let e =
        levers.is in cc
  ],
  λ h. elim (box_kind b box_plan (NoStarter section) h).is [
    | inl rows ↦ let e = rows.is in cc
    | inr levers ↦ let e =
        levers.is in cc
  ],
)

no_berth_at : (plan : PlanFields) (section : Section) → SectionKind plan (NoBerth section) → LacksBerth plan section
no_berth_at plan section h = elim h.gap.is [
  | inl p ↦
      let e = p.0 in
      let same : h.section ≡ section = cc in
      subst (λ (s : Section). LacksBerth plan s) same (record { is = h.there; starter = p.1; berth = p.2 })
  | inr p ↦ let e = p.0 in cc
]

no_starter_at : (plan : PlanFields) (section : Section) → SectionKind plan (NoStarter section)
    → LacksStarter plan section
no_starter_at plan section h = elim h.gap.is [
  | inl p ↦ let e = p.0 in cc
  | inr p ↦
      let e = p.0 in
      let same : h.section ≡ section = cc in
      subst (λ (s : Section). LacksStarter plan s) same (record { is = h.there; starter = p.1; berth = p.2 })
]

berth_told : (plan : PlanFields) (section : Section) → Contains (findings_of plan) (NoBerth section)
    → LacksBerth plan section
berth_told plan section h = elim (is_in plan (NoBerth section) h).is [
  | inl box ↦ absurd ((box_is_none (0 + box.j) (get_or plan.boxes box.j no_box) section).0 box.found)
  | inr at ↦ no_berth_at plan section (section_kind plan (NoBerth section) at)
]

starter_told : (plan : PlanFields) (section : Section) → Contains (findings_of plan) (NoStarter section)
    → LacksStarter plan section
starter_told plan section h = elim (is_in plan (NoStarter section) h).is [
  | inl box ↦ absurd ((box_is_none (0 + box.j) (get_or plan.boxes box.j no_box) section).1 box.found)
  | inr at ↦ no_starter_at plan section (section_kind plan (NoStarter section) at)
]

-- a section is found to have no berth exactly where it lacks one
pub no_berth_exactly : (plan : PlanFields) (section : Section)
    → (Contains (findings_of plan) (NoBerth section) ↔ LacksBerth plan section)
no_berth_exactly plan section = (
  berth_told plan section,
  λ h. section_found plan section (NoBerth section) h.is
      (in_no_berth section (section_starter plan section) (section_berth plan section) h.starter h.berth),
)

-- a section is found to have no starter exactly where it lacks one
pub no_starter_exactly : (plan : PlanFields) (section : Section)
    → (Contains (findings_of plan) (NoStarter section) ↔ LacksStarter plan section)
no_starter_exactly plan section = (
  starter_told plan section,
  λ h. section_found plan section (NoStarter section) h.is
      (in_no_starter section (section_starter plan section) (section_berth plan section) h.starter h.berth),
)

-- ---- all

-- the findings on a plan are told of it in the words of the railway
pub are_exact : (plan : PlanFields) (found : List Finding) → IsPlan plan → found ≡ findings_of plan
    → AreFindings plan found
are_exact plan found is e =
    rw e (record {
      order = refl;
      clash = λ b first second lever. clash_exactly plan b first second lever is;
      lever = λ b lever. lever_exactly plan b lever;
      no_berth = λ section. no_berth_exactly plan section;
      no_starter = λ section. no_starter_exactly plan section;
    })
