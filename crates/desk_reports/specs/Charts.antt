-- What `chart` makes of a plan.
use Rattle.std.specs.Prelude.{List, ℕ}
use Rattle.frame_chart.specs.Printing.{box_chart_text}
use Rattle.line_plan.specs.Plans.{PlanFields}
use Rattle.desk_reports.specs.Frames.{box_named, box_told}
use Rattle.text_fetch.specs.FromTexts.{FromTexts, Gives, Held, plan_told, told_then}

-- the locking chart of the box with this name
abbrev pub chart_told : PlanFields → List ℕ → FromTexts (List ℕ)
chart_told plan name = told_then (box_told plan (box_named plan name)) (λ box_plan. Gives (box_chart_text box_plan))

-- what `chart` makes of the text that its words name: the locking chart of the plan's box with this name
abbrev pub plan_chart_told : Held → List ℕ → List ℕ → FromTexts (List ℕ)
plan_chart_told held plan_name name = told_then (plan_told held plan_name) (λ plan. chart_told plan name)
