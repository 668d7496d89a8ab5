-- The sheets of boxes, as text in pages.
use Rattle.std.specs.Prelude.{ℕ, ◌+◌, ◌/◌, ◌%◌, ◌==◌, Bool, true, List, [], ◌∷◌, ◌++◌, Option, Some, None, codes}
use Rattle.std.specs.Prelude.{decimal, length, nat_lt, if◌then◌else◌}
use Rattle.block_words.specs.declared.Way.{Way}
use Rattle.block_words.specs.declared.Way.TheVariants.{Up, Down}
use Rattle.line_plan.specs.Frames.{BoxFields}
use Rattle.line_plan.specs.Plans.{PlanFields, box_name}
use Rattle.line_plan.specs.Ways.{way_word}
use Rattle.line_law.specs.declared.call.Entry.{Entry}
use Rattle.register_sheet.specs.Sheets.{SheetFields, sheet_of}
use Rattle.sheet_text.specs.Cells.{row_text}
use Rattle.sheet_text.specs.Rows.{rows_of}
use Rattle.sheet_text.specs.declared.headings.TheConstants.{BESIDE, COLUMNS, OWNER}
use Rattle.sheet_text.specs.declared.rows.Row.{Row}

-- how many rows a page has
abbrev pub page_rows : ℕ
page_rows = 40

-- a box by its name
unfoldable pub box_word : PlanFields → ℕ → List ℕ
box_word plan b = if nat_lt b (length plan.boxes) then box_name plan b else codes "an unknown box"

-- whose register it is
unfoldable pub owner_text : PlanFields → ℕ → List ℕ
owner_text plan b = OWNER.now ++ box_word plan b

-- whose sheet it is
unfoldable pub title_text : PlanFields → ℕ → Way → List ℕ
title_text plan b way = owner_text plan b ++ codes ", " ++ way_word way ++ codes " line"

-- beside whose register something stands
unfoldable pub other_text : PlanFields → ℕ → List ℕ
other_text plan b = codes "Beside the register of " ++ box_word plan b

-- the heading of a page: whose sheet it is, the number of the page, and the names of the columns in two lines
unfoldable pub heading_text : PlanFields → ℕ → Way → ℕ → List ℕ
heading_text plan b way page = title_text plan b way ++ codes ", page " ++ decimal page ++ COLUMNS.now

-- what stands in place of a sheet without rows
unfoldable pub no_train_text : PlanFields → ℕ → Way → List ℕ
no_train_text plan b way = title_text plan b way ++ codes ": no train\n"

-- how many entries of a box stand beside its sheets
unfoldable pub beside_text : PlanFields → ℕ → ℕ → List ℕ
beside_text plan b count = other_text plan b ++ BESIDE.now ++ decimal count ++ 10 ∷ []

-- the heading before a row that is the first of a page, behind an empty line but on the first page
abbrev pub page_text : PlanFields → ℕ → Way → ℕ → List ℕ
page_text plan b way at =
    if at == 0 then heading_text plan b way 1
    else if at % page_rows == 0 then 10 ∷ heading_text plan b way (at / page_rows + 1)
    else []

-- the rows of a sheet, in pages; the first of these has this number on the sheet, from 0
abbrev pub rows_text : PlanFields → List Entry → ℕ → Way → ℕ → List Row → List ℕ
rows_text plan es b way at [] = []
rows_text plan es b way at (row ∷ rows) =
    page_text plan b way at ++ row_text plan es row ++ rows_text plan es b way (at + 1) rows

-- a sheet: its rows in pages, or that there is no train
unfoldable pub pages_text : PlanFields → List Entry → ℕ → Way → List Row → List ℕ
pages_text plan es b way rows =
    if length rows == 0 then no_train_text plan b way else rows_text plan es b way 0 rows

-- the sheets of a box: of the down line and of the up line, and how many entries stand beside them
unfoldable pub box_text : PlanFields → List Entry → ℕ → SheetFields → List ℕ
box_text plan es b sheet =
    pages_text plan es b Down (rows_of Down sheet)
    ++ 10 ∷ pages_text plan es b Up (rows_of Up sheet)
    ++ 10 ∷ beside_text plan b (length sheet.beside)

-- a box is asked for: the one that is named, or each where none is
abbrev pub is_wanted : Option ℕ → ℕ → Bool
is_wanted None b = true
is_wanted (Some wanted) b = wanted == b

-- the box with this number, where it is asked for
abbrev pub box_if : PlanFields → List Entry → Option ℕ → ℕ → List ℕ
box_if plan es only b = if is_wanted only b then box_text plan es b (sheet_of plan b es) ++ 10 ∷ [] else []

-- the boxes that are asked for among these, of which the first has this number
abbrev pub boxes_from : PlanFields → List Entry → Option ℕ → ℕ → List BoxFields → List ℕ
boxes_from plan es only b [] = []
boxes_from plan es only b (box_plan ∷ boxes) = box_if plan es only b ++ boxes_from plan es only (b + 1) boxes

-- the sheets of a journal, of one box or of all
unfoldable pub sheet_text : PlanFields → List Entry → Option ℕ → List ℕ
sheet_text plan es only = boxes_from plan es only 0 plan.boxes
