-- The line has the box or the section of each finding.
use Rattle.std.proofs.Common.{◌≡◌, ℕ, zero, suc, ◌+◌, ◌-◌, ◌<◌, ◌≤◌, Bool, true, false, not, ◌&&◌, List, [], ◌∷◌}
use Rattle.std.proofs.Common.{Option, None, Some, All, length, if◌then◌else◌, arith}
use Rattle.std.specs.List.{flat_map}
use Rattle.std.proofs.lemmas.Bool.Decides.{nat_tests}
use Rattle.std.proofs.lemmas.List.Elements.{All-append, All-cons, All-nil}
use Rattle.block_words.specs.declared.Way.TheVariants.{Up, Down}
use Rattle.locking_table.specs.declared.row.Row.{Row}
use Rattle.line_plan.specs.Frames.{BoxFields}
use Rattle.line_plan.specs.Plans.{IsPlan, PlanFields}
use Rattle.line_plan.specs.Sections.{IsSection, section_berth, section_starter, sections_from, sections_of}
use Rattle.line_plan.specs.declared.berth.Berth.{Berth}
use Rattle.line_plan.specs.declared.frame.Lever.{Lever}
use Rattle.line_plan.specs.declared.section.Section.{Section}
use Rattle.line_plan.specs.declared.signal.Signal.{Signal}
use Rattle.plan_check.specs.Clashes.{do_clash}
use Rattle.plan_check.specs.Found.{IsOfPlan, box_findings, boxes_findings, clash_findings, clashes_from, clashes_with}
use Rattle.plan_check.specs.Found.{findings_of, gap_findings, is_spare, lever_findings, section_findings, stands_in}
use Rattle.plan_check.specs.declared.finding.Finding.{Finding}
use Rattle.plan_check.specs.declared.finding.Finding.TheVariants.{RowsClash, LeverWithoutRow, NoBerth, NoStarter}

-- one finding, or none
one_or_none : (plan : PlanFields) (b : Bool) (f : Finding) → IsOfPlan plan f
    → All (IsOfPlan plan) (if b then f ∷ [] else [])
one_or_none plan true f h = All-cons (IsOfPlan plan) f [] h (All-nil (IsOfPlan plan))
one_or_none plan false f h = All-nil (IsOfPlan plan)

with_there : (plan : PlanFields) (b n : ℕ) (row : Row) (m : ℕ) (rows : List Row) → b < length plan.boxes
    → All (IsOfPlan plan) (clashes_with b n row m rows)
with_there plan b n row m [] lt = All-nil (IsOfPlan plan)
with_there plan b n row m (later ∷ rows) lt =
    All-append (IsOfPlan plan) (clash_findings b n row m later) (clashes_with b n row (m + 1) rows)
    (one_or_none plan (do_clash row later) (RowsClash b n m row.subject) lt)
    (with_there plan b n row (m + 1) rows lt)

from_there : (plan : PlanFields) (b n : ℕ) (rows : List Row) → b < length plan.boxes
    → All (IsOfPlan plan) (clashes_from b n rows)
from_there plan b n [] lt = All-nil (IsOfPlan plan)
from_there plan b n (row ∷ rows) lt =
    All-append (IsOfPlan plan) (clashes_with b n row (n + 1) rows) (clashes_from b (n + 1) rows)
    (with_there plan b n row (n + 1) rows lt) (from_there plan b (n + 1) rows lt)

levers_there : (plan : PlanFields) (b : ℕ) (rows : List Row) (levers : List Lever) → b < length plan.boxes
    → All (IsOfPlan plan) (flat_map (lever_findings b rows) levers)
levers_there plan b rows [] lt = All-nil (IsOfPlan plan)
levers_there plan b rows (lever ∷ levers) lt =
    All-append (IsOfPlan plan) (lever_findings b rows lever) (flat_map (lever_findings b rows) levers)
    (one_or_none plan (not (is_spare lever.kind) && not (stands_in rows lever.number)) (LeverWithoutRow b lever.number)
    lt) (levers_there plan b rows levers lt)

boxes_there : (plan : PlanFields) (b : ℕ) (boxes : List BoxFields) → b + length boxes ≤ length plan.boxes
    → All (IsOfPlan plan) (boxes_findings b boxes)
boxes_there plan b [] le = All-nil (IsOfPlan plan)
boxes_there plan b (here ∷ boxes) le =
    let lt : b < length plan.boxes = omega (arith, le) in
    All-append (IsOfPlan plan) (box_findings b here) (boxes_findings (b + 1) boxes)
    (All-append (IsOfPlan plan) (clashes_from b 1 here.rows) (flat_map (lever_findings b here.rows) here.levers)
    (from_there plan b 1 here.rows lt) (levers_there plan b here.rows here.levers lt))
    (boxes_there plan (b + 1) boxes (omega (arith, le)))

gap_there : (plan : PlanFields) (section : Section) (s : Option Signal) (b : Option Berth) → IsSection plan section
    → All (IsOfPlan plan) (gap_findings section s b)
gap_there plan section None None is = All-nil (IsOfPlan plan)
gap_there plan section None (Some berth) is =
    All-cons (IsOfPlan plan) (NoStarter section) [] is (All-nil (IsOfPlan plan))
gap_there plan section (Some starter) None is =
    All-cons (IsOfPlan plan) (NoBerth section) [] is (All-nil (IsOfPlan plan))
gap_there plan section (Some starter) (Some berth) is = All-nil (IsOfPlan plan)

-- a box with another behind it has a section of the down line
pub down_is : (plan : PlanFields) (b : ℕ) → b + 1 < length plan.boxes → IsSection plan (record { rear = b; way = Down })
down_is plan b lt = grind (arith, nat_tests)

-- and the other has one of the up line
pub up_is : (plan : PlanFields) (b : ℕ) → b + 1 < length plan.boxes → IsSection plan (record { rear = b + 1; way = Up })
up_is plan b lt = grind (arith, nat_tests)

here_there : (plan : PlanFields) (section : Section) → IsSection plan section
    → All (IsOfPlan plan) (section_findings plan section)
here_there plan section is = gap_there plan section (section_starter plan section) (section_berth plan section) is

sections_there : (plan : PlanFields) (b n : ℕ) → b + n + 1 ≤ length plan.boxes
    → All (IsOfPlan plan) (flat_map (section_findings plan) (sections_from b n))
sections_there plan b zero le = All-nil (IsOfPlan plan)
sections_there plan b (suc n) le =
    let down : Section = record { rear = b; way = Down } in
    let up : Section = record { rear = b + 1; way = Up } in
    let lt : b + 1 < length plan.boxes = omega (arith, le) in
    All-append (IsOfPlan plan) (section_findings plan down)
    (flat_map (section_findings plan) (up ∷ sections_from (b + 1) n)) (here_there plan down (down_is plan b lt))
    (All-append (IsOfPlan plan) (section_findings plan up) (flat_map (section_findings plan) (sections_from (b + 1) n))
    (here_there plan up (up_is plan b lt)) (sections_there plan (b + 1) n (omega (arith, le))))

all_there : (plan : PlanFields) → 2 ≤ length plan.boxes → All (IsOfPlan plan) (findings_of plan)
all_there plan two =
    All-append (IsOfPlan plan) (boxes_findings 0 plan.boxes) (flat_map (section_findings plan) (sections_of plan))
    (boxes_there plan 0 plan.boxes (omega arith))
    (sections_there plan 0 (length plan.boxes - 1) (omega (arith, two)))

-- these findings are those on the plan
pub are_there : (plan : PlanFields) (found : List Finding) → IsPlan plan → found ≡ findings_of plan
    → All (IsOfPlan plan) found
are_there plan found is e = let two = is.fewest in rw e (all_there plan two)
