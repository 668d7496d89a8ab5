-- The words that stand in a page, beside those of the sheets as text.
use Rattle.std.specs.Prelude.{ℕ, ◌-◌, List, [], ◌++◌, Option, Some, None, codes, length, nat_lt, slice_get}
use Rattle.std.specs.Prelude.{if◌then◌else◌}
use Rattle.line_plan.specs.Plans.{PlanFields, box_name}
use Rattle.line_law.specs.declared.call.Entry.{Entry}
use Rattle.script_text.specs.Moments.{hundred_hours, moment_text}

-- the name of a page: of the line from its first box to its last
unfoldable pub page_name : PlanFields → List ℕ
page_name plan =
    codes "Train registers of the line from " ++ box_name plan 0 ++ codes " to " ++ box_name plan (length plan.boxes - 1)

-- the moment of an entry; each that a journal tells of is one of the day
abbrev pub moment_or : PlanFields → Entry → List ℕ
moment_or plan e =
    if nat_lt e.call.moment (hundred_hours plan.version) then moment_text plan.version e.call.moment else []

abbrev pub moment_by : PlanFields → Option Entry → List ℕ
moment_by plan None = []
moment_by plan (Some e) = moment_or plan e

-- the moment of the entry of this number that stands in a column; nothing where none does
abbrev pub moment_word : PlanFields → List Entry → Option ℕ → List ℕ
moment_word plan es None = []
moment_word plan es (Some at) = moment_by plan (slice_get es at)
