-- The columns of a line, and a remark, as text.
use Rattle.std.specs.Prelude.{ℕ, ◌-◌, ◌==◌, ◌&&◌, List, [], ◌∷◌, ◌++◌, Option, Some, None, length, codes}
use Rattle.std.specs.Prelude.{decimal, nat_lt, replicate, slice_get, if◌then◌else◌}
use Rattle.std.specs.List.{flat_map}
use Rattle.line_plan.specs.Plans.{PlanFields}
use Rattle.line_plan.specs.declared.plan.Class.{Class}
use Rattle.line_law.specs.declared.call.Entry.{Entry}
use Rattle.line_law.specs.Known.{is_code_no, knows_call}
use Rattle.register_sheet.specs.declared.sheet.Line.{Line}
use Rattle.register_sheet.specs.Bells.{class_of}
use Rattle.script_text.specs.Entries.{told_text}
use Rattle.script_text.specs.Moments.{hundred_hours, moment_text}
use Rattle.script_text.specs.Names.{code_no_text}
use Rattle.script_text.specs.Replies.{is_spelled_reply}
use Rattle.sheet_text.specs.declared.rows.Row.{Row}
use Rattle.sheet_text.specs.declared.rows.Row.TheVariants as rows

-- the spaces before a number in five columns
abbrev pub number_pad : ℕ → List ℕ
number_pad number =
    if nat_lt number 10 then codes "    "
    else if nat_lt number 100 then codes "   "
    else if nat_lt number 1000 then codes "  "
    else if nat_lt number 10000 then codes " "
    else []

-- the number of a line, in five columns
abbrev pub number_text : ℕ → List ℕ
number_text number = number_pad number ++ decimal number

-- ---- the description of a train

-- the name of a class
abbrev pub class_name : Option Class → List ℕ
class_name None = codes "no class"
class_name (Some class) = class.name

-- the first class that is offered by a code
abbrev pub class_by : PlanFields → Option ℕ → List ℕ
class_by plan None = codes "no class"
class_by plan (Some class) = class_name (slice_get plan.classes class)

abbrev pub class_word : PlanFields → ℕ → List ℕ
class_word plan code = class_by plan (class_of plan code)

-- a code; the plan has each that a journal tells of
abbrev pub code_word : PlanFields → ℕ → List ℕ
code_word plan code = if is_code_no plan code then code_no_text plan.codes code else codes "no code"

-- class and code
unfoldable pub description_text : PlanFields → ℕ → List ℕ
description_text plan code = class_word plan code ++ 32 ∷ code_word plan code

-- the same in 28 columns
abbrev pub described_text : PlanFields → ℕ → List ℕ
described_text plan code = description_text plan code ++ replicate (28 - length (description_text plan code)) 32

-- ---- the columns

-- no entry stands there
abbrev pub blank_text : List ℕ
blank_text = codes "        -"

-- the spaces before a moment in nine columns
abbrev pub moment_pad : ℕ → List ℕ
moment_pad version = if version == 1 then codes "    " else codes " "

-- the moment of an entry, in nine columns; each that a journal tells of is one of the day
unfoldable pub entry_cell : PlanFields → Entry → List ℕ
entry_cell plan e =
    if nat_lt e.call.moment (hundred_hours plan.version)
    then moment_pad plan.version ++ moment_text plan.version e.call.moment
    else blank_text

abbrev pub cell_by : PlanFields → Option Entry → List ℕ
cell_by plan None = blank_text
cell_by plan (Some e) = entry_cell plan e

-- a column: the moment of the entry of this number that stands there
abbrev pub cell_text : PlanFields → List Entry → Option ℕ → List ℕ
cell_text plan es None = blank_text
cell_text plan es (Some at) = cell_by plan (slice_get es at)

-- a line: its number, the description of its train, and its columns
unfoldable pub line_text : PlanFields → List Entry → ℕ → Line → List ℕ
line_text plan es number line =
    number_text number ++ 32 ∷ described_text plan line.code ++ flat_map (cell_text plan es) line.cells ++ 10 ∷ []

-- ---- remarks

-- what an entry tells; each of a legal journal can be told
abbrev pub told_or : PlanFields → Entry → List ℕ
told_or plan e =
    if knows_call plan e.box_no e.call && is_spelled_reply plan e.box_no e.reply
    then told_text plan e
    else codes "no such entry"

abbrev pub told_by : PlanFields → Option Entry → List ℕ
told_by plan None = codes "no such entry"
told_by plan (Some e) = told_or plan e

-- a remark: what the entry of this number tells
unfoldable pub remark_text : PlanFields → List Entry → ℕ → List ℕ
remark_text plan es at = codes "      " ++ told_by plan (slice_get es at) ++ 10 ∷ []

-- a row
abbrev pub row_text : PlanFields → List Entry → Row → List ℕ
row_text plan es (rows.Line number line) = line_text plan es number line
row_text plan es (rows.Remark at) = remark_text plan es at
