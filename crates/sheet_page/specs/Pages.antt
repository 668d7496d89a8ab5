-- The sheets of boxes as a page of HTML.
use Rattle.std.specs.Prelude.{ℕ, ◌+◌, ◌==◌, List, [], ◌∷◌, ◌++◌, Option, codes, length, if◌then◌else◌}
use Rattle.block_words.specs.declared.Way.{Way}
use Rattle.block_words.specs.declared.Way.TheVariants.{Up, Down}
use Rattle.line_plan.specs.Frames.{BoxFields}
use Rattle.line_plan.specs.Plans.{PlanFields, box_name}
use Rattle.line_law.specs.declared.call.Entry.{Entry}
use Rattle.mark_up.specs.declared.attributes.Name.TheVariants as names
use Rattle.mark_up.specs.declared.tags.EmptyTag.TheVariants as empty
use Rattle.mark_up.specs.declared.tags.Tag.TheVariants as tags
use Rattle.mark_up.specs.Attributes.{ValueFields as Value}
use Rattle.mark_up.specs.Documents.{empty_tag, end_tag, start_tag}
use Rattle.mark_up.specs.Escapes.{escaped}
use Rattle.mark_up.specs.Tags.{prolog}
use Rattle.register_sheet.specs.Sheets.{SheetFields, sheet_of}
use Rattle.sheet_text.specs.declared.rows.Row.{Row}
use Rattle.sheet_text.specs.Rows.{rows_of}
use Rattle.sheet_text.specs.Texts.{beside_text, is_wanted, no_train_text, title_text}
use Rattle.sheet_page.specs.declared.page.TheConstants.{STYLE}
use Rattle.sheet_page.specs.Columns.{groups_html, head_html, said}
use Rattle.sheet_page.specs.Rows.{body_html}
use Rattle.sheet_page.specs.Words.{page_name}

-- the table of a sheet, behind its caption
unfoldable pub table_html : PlanFields → List Entry → ℕ → Way → List Row → List ℕ
table_html plan es b way all =
    start_tag tags.Table [] ++ said tags.Caption [] (title_text plan b way) ++ groups_html
    ++ head_html (title_text plan b way) ++ body_html plan es all ++ end_tag tags.Table

-- that there is no train
unfoldable pub no_train_html : PlanFields → ℕ → Way → List ℕ
no_train_html plan b way = said tags.Paragraph [] (no_train_text plan b way)

-- a sheet: the table of its rows, or that there is no train
abbrev pub sheet_html : PlanFields → List Entry → ℕ → Way → List Row → List ℕ
sheet_html plan es b way all =
    if length all == 0 then no_train_html plan b way else table_html plan es b way all

-- how many entries of a box stand beside its sheets
unfoldable pub beside_html : PlanFields → ℕ → ℕ → List ℕ
beside_html plan b count = said tags.Paragraph [] (beside_text plan b count)

-- the section of a box begins, with its name
unfoldable pub section_start : PlanFields → ℕ → List ℕ
section_start plan b =
    escaped (codes "\n") ++ start_tag tags.Section [] ++ said tags.Subheading [] (box_name plan b)

-- a box: the sheet of the down line and that of the up line, and how many entries stand beside them
unfoldable pub box_html : PlanFields → List Entry → ℕ → SheetFields → List ℕ
box_html plan es b sheet =
    section_start plan b ++ sheet_html plan es b Down (rows_of Down sheet) ++ sheet_html plan es b Up (rows_of Up sheet)
    ++ beside_html plan b (length sheet.beside) ++ end_tag tags.Section

-- the box with this number, where it is asked for
abbrev pub box_if : PlanFields → List Entry → Option ℕ → ℕ → List ℕ
box_if plan es only b = if is_wanted only b then box_html plan es b (sheet_of plan b es) else []

-- the boxes that are asked for among these, of which the first has this number
abbrev pub boxes_from : PlanFields → List Entry → Option ℕ → ℕ → List BoxFields → List ℕ
boxes_from plan es only b [] = []
boxes_from plan es only b (box_plan ∷ boxes) = box_if plan es only b ++ boxes_from plan es only (b + 1) boxes

-- how the text of the page is written
unfoldable pub charset_html : List ℕ
charset_html = empty_tag empty.Meta ((names.Charset, Value.Text (codes "utf-8")) ∷ [])

-- the title of the page, and its style
unfoldable pub styled_html : List ℕ → List ℕ
styled_html name = said tags.Title [] name ++ said tags.Style [] STYLE.now

-- what is told of the page
unfoldable pub told_html : List ℕ → List ℕ
told_html name = start_tag tags.Head [] ++ charset_html ++ styled_html name ++ end_tag tags.Head

-- what is shown: its heading, and the boxes
unfoldable pub shown_html : PlanFields → List Entry → Option ℕ → List ℕ
shown_html plan es only =
    start_tag tags.Body [] ++ said tags.Heading [] (page_name plan) ++ boxes_from plan es only 0 plan.boxes
    ++ end_tag tags.Body

-- a page begins
unfoldable pub page_start : List ℕ
page_start = prolog tags.Html ++ start_tag tags.Html ((names.Language, Value.Text (codes "en")) ∷ [])

-- the sheets of a journal, of one box or of all, as a page
abbrev pub sheet_page : PlanFields → List Entry → Option ℕ → List ℕ
sheet_page plan es only =
    page_start ++ told_html (page_name plan) ++ shown_html plan es only ++ end_tag tags.Html
