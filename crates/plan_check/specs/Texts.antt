-- The findings on a plan as they are printed.
use Rattle.std.specs.Prelude.{ℕ, List, [], ◌∷◌, ◌++◌, length, codes, decimal}
use Rattle.std.specs.List.{flat_map}
use Rattle.line_plan.specs.Plans.{PlanFields, box_name}
use Rattle.line_plan.specs.Sections.{section_name}
use Rattle.line_plan.specs.declared.section.Section.{Section}
use Rattle.plan_check.specs.declared.finding.Finding.{Finding}
use Rattle.plan_check.specs.declared.finding.Finding.TheVariants.{RowsClash, LeverWithoutRow, NoBerth, NoStarter}

-- a section that lacks something: its way, and its boxes from rear to advance
abbrev pub gap_text : PlanFields → Section → List ℕ → List ℕ
gap_text plan section lacks =
    codes "section " ++ section_name plan section ++ codes " has no " ++ lacks ++ 10 ∷ []

-- a box as a finding names it
unfoldable pub box_text : PlanFields → ℕ → List ℕ
box_text plan b = codes "box " ++ box_name plan b

-- two rows of box b that clash, and their subject
abbrev pub clash_text : PlanFields → ℕ → ℕ → ℕ → ℕ → List ℕ
clash_text plan b first second lever =
    box_text plan b ++ codes " rows " ++ decimal first ++ 32 ∷ decimal second ++ codes " never let lever "
    ++ decimal lever ++ codes " move\n"

-- a lever of box b without a row
abbrev pub lever_text : PlanFields → ℕ → ℕ → List ℕ
lever_text plan b lever = box_text plan b ++ codes " lever " ++ decimal lever ++ codes " has no row\n"

-- a finding's line
unfoldable pub finding_text : PlanFields → Finding → List ℕ
finding_text plan (RowsClash b first second lever) = clash_text plan b first second lever
finding_text plan (LeverWithoutRow b lever) = lever_text plan b lever
finding_text plan (NoBerth section) = gap_text plan section (codes "berth")
finding_text plan (NoStarter section) = gap_text plan section (codes "starter")

-- how many findings there are, and the line of each
unfoldable pub findings_text : PlanFields → List Finding → List ℕ
findings_text plan findings =
    codes "findings " ++ decimal (length findings) ++ 10 ∷ flat_map (finding_text plan) findings
