-- The rows of a sheet, as they are written.
use Rattle.std.specs.Prelude.{ℕ, List, [], ◌∷◌, ◌++◌, Option, codes, decimal, slice_get}
use Rattle.std.specs.List.{flat_map}
use Rattle.line_law.specs.declared.call.Entry.{Entry}
use Rattle.line_plan.specs.Plans.{PlanFields}
use Rattle.mark_up.specs.declared.attributes.Name.TheVariants as names
use Rattle.mark_up.specs.declared.tags.Tag.TheVariants as tags
use Rattle.mark_up.specs.Attributes.{ValueFields as Value}
use Rattle.mark_up.specs.Documents.{end_tag, start_tag}
use Rattle.register_sheet.specs.declared.sheet.Line.{Line}
use Rattle.sheet_text.specs.declared.rows.Row.{Row}
use Rattle.sheet_text.specs.declared.rows.Row.TheVariants as rows
use Rattle.sheet_text.specs.Cells.{description_text, told_by}
use Rattle.sheet_page.specs.Columns.{row_start, said}
use Rattle.sheet_page.specs.Words.{moment_word}

-- the number of a line, which is the head of its row
unfoldable pub number_html : ℕ → List ℕ
number_html number = said tags.HeadCell ((names.Scope, Value.Text (codes "row")) ∷ []) (decimal number)

-- the description of its train
unfoldable pub description_html : PlanFields → ℕ → List ℕ
description_html plan code = said tags.Cell [] (description_text plan code)

-- a column of it: the moment of the entry that stands there
unfoldable pub cell_html : PlanFields → List Entry → Option ℕ → List ℕ
cell_html plan es cell = said tags.Cell [] (moment_word plan es cell)

-- its columns, each once, in their order
abbrev pub cells_html : PlanFields → List Entry → List (Option ℕ) → List ℕ
cells_html plan es cells = flat_map (cell_html plan es) cells

-- a line
unfoldable pub line_html : PlanFields → List Entry → ℕ → Line → List ℕ
line_html plan es number line =
    row_start ++ number_html number ++ description_html plan line.code ++ cells_html plan es line.cells
    ++ end_tag tags.TableRow

-- a remark, over all columns: what the entry of this number tells
unfoldable pub remark_html : PlanFields → List Entry → ℕ → List ℕ
remark_html plan es at =
    row_start
    ++ said tags.Cell ((names.Class, Value.Text (codes "remark")) ∷ (names.ColumnSpan, Value.Number 12) ∷ [])
    (told_by plan (slice_get es at))
    ++ end_tag tags.TableRow

-- a row
abbrev pub row_html : PlanFields → List Entry → Row → List ℕ
row_html plan es (rows.Line number line) = line_html plan es number line
row_html plan es (rows.Remark at) = remark_html plan es at

-- the rows of a sheet, each once, in their order
abbrev pub rows_html : PlanFields → List Entry → List Row → List ℕ
rows_html plan es all = flat_map (row_html plan es) all

-- the body of a table
unfoldable pub body_html : PlanFields → List Entry → List Row → List ℕ
body_html plan es all = start_tag tags.TableBody [] ++ rows_html plan es all ++ end_tag tags.TableBody
