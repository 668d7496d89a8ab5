-- The findings on a plan.
use Rattle.std.specs.Prelude.{ℕ, ◌+◌, ◌<◌, List, [], ◌∷◌, ◌++◌, length, Bool, true, false, not, ◌&&◌, ◌||◌, ◌==◌}
use Rattle.std.specs.Prelude.{if◌then◌else◌, Option, Some, None}
use Rattle.std.specs.List.{flat_map, list_any}
use Rattle.block_words.specs.declared.Way.TheVariants.{Up, Down}
use Rattle.locking_table.specs.declared.row.Row.{Row}
use Rattle.line_plan.specs.Frames.{BoxFields}
use Rattle.line_plan.specs.Plans.{PlanFields}
use Rattle.line_plan.specs.Sections.{IsSection, section_berth, section_starter, sections_of}
use Rattle.line_plan.specs.declared.berth.Berth.{Berth}
use Rattle.line_plan.specs.declared.frame.Kind.{Kind}
use Rattle.line_plan.specs.declared.frame.Kind.TheVariants as kinds
use Rattle.line_plan.specs.declared.frame.Lever.{Lever}
use Rattle.line_plan.specs.declared.section.Section.{Section}
use Rattle.line_plan.specs.declared.signal.Signal.{Signal}
use Rattle.plan_check.specs.declared.finding.Finding.{Finding}
use Rattle.plan_check.specs.declared.finding.Finding.TheVariants.{RowsClash, LeverWithoutRow, NoBerth, NoStarter}
use Rattle.plan_check.specs.Clashes.{do_clash}

-- ---- rows that clash

-- the clash of a row of box b with one behind it, by the numbers of both
abbrev pub clash_findings : ℕ → ℕ → Row → ℕ → Row → List Finding
clash_findings b first row second later = if do_clash row later then RowsClash b first second row.subject ∷ [] else []

-- the clashes of a row of box b with the rows behind it, which are numbered from this number on
abbrev pub clashes_with : ℕ → ℕ → Row → ℕ → List Row → List Finding
clashes_with b first row second [] = []
clashes_with b first row second (later ∷ rows) =
    clash_findings b first row second later ++ clashes_with b first row (second + 1) rows

-- the clashes among rows of box b, which are numbered from this number on: by the first row, then by the second
abbrev pub clashes_from : ℕ → ℕ → List Row → List Finding
clashes_from b number [] = []
clashes_from b number (row ∷ rows) = clashes_with b number row (number + 1) rows ++ clashes_from b (number + 1) rows

-- ---- levers without a row

-- a row names the lever: as its subject, as its object or in a condition
abbrev pub names_lever : ℕ → Row → Bool
names_lever lever row = row.subject == lever || row.object == lever || list_any (λ cond. cond.lever == lever) row.when

-- some row names the lever
abbrev pub stands_in : List Row → ℕ → Bool
stands_in rows lever = list_any (names_lever lever) rows

abbrev pub is_spare : Kind → Bool
is_spare kinds.Signal = false
is_spare kinds.Points = false
is_spare kinds.Lock = false
is_spare kinds.Distant = false
is_spare kinds.Spare = true

-- a lever of box b that isn't spare and stands in no row
abbrev pub lever_findings : ℕ → List Row → Lever → List Finding
lever_findings b rows lever =
    if not (is_spare lever.kind) && not (stands_in rows lever.number) then LeverWithoutRow b lever.number ∷ [] else []

-- ---- sections

-- a section with a starter and no berth, or with a berth and no starter
abbrev pub gap_findings : Section → Option Signal → Option Berth → List Finding
gap_findings section None None = []
gap_findings section None (Some berth) = NoStarter section ∷ []
gap_findings section (Some starter) None = NoBerth section ∷ []
gap_findings section (Some starter) (Some berth) = []

abbrev pub section_findings : PlanFields → Section → List Finding
section_findings plan section = gap_findings section (section_starter plan section) (section_berth plan section)

-- of the two sections between box b and the next
abbrev pub pair_findings : PlanFields → ℕ → List Finding
pair_findings plan b = section_findings plan (record { rear = b; way = Down })
    ++ section_findings plan (record { rear = b + 1; way = Up })

-- ---- all

-- in box b: the clashes, then the levers
abbrev pub box_findings : ℕ → BoxFields → List Finding
box_findings b box_plan = clashes_from b 1 box_plan.rows ++ flat_map (lever_findings b box_plan.rows) box_plan.levers

-- in these boxes, of which the first is box b
abbrev pub boxes_findings : ℕ → List BoxFields → List Finding
boxes_findings b [] = []
boxes_findings b (box_plan ∷ boxes) = box_findings b box_plan ++ boxes_findings (b + 1) boxes

-- the findings on a plan: box by box, then section by section
abbrev pub findings_of : PlanFields → List Finding
findings_of plan = boxes_findings 0 plan.boxes ++ flat_map (section_findings plan) (sections_of plan)

-- the line has the box or the section of the finding
abbrev pub IsOfPlan : PlanFields → Finding → Type 0
IsOfPlan plan (RowsClash b first second lever) = b < length plan.boxes
IsOfPlan plan (LeverWithoutRow b lever) = b < length plan.boxes
IsOfPlan plan (NoBerth section) = IsSection plan section
IsOfPlan plan (NoStarter section) = IsSection plan section
