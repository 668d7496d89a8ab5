-- A locking table as a page.
use Rattle.std.specs.Prelude.{◌≡◌, ℕ, List, [], ◌∷◌, ◌++◌, codes}
use Rattle.locking_table.specs.declared.row.Row.{Row}
use Rattle.line_plan.specs.declared.frame.Lever.{Lever}
use Rattle.locking_sheet.specs.Sheets.{IsSheet, SheetFields}
use Rattle.mark_up.specs.declared.attributes.Name.TheVariants as names
use Rattle.mark_up.specs.declared.tags.EmptyTag.TheVariants as empty
use Rattle.mark_up.specs.declared.tags.Tag.TheVariants as tags
use Rattle.mark_up.specs.Attributes.{ValueFields as Value}
use Rattle.mark_up.specs.Documents.{empty_tag, end_tag, start_tag}
use Rattle.mark_up.specs.Escapes.{escaped}
use Rattle.mark_up.specs.Tags.{prolog}
use Rattle.locking_page.specs.declared.page.TheConstants.{LEGEND, STYLE}
use Rattle.locking_page.specs.Lines.{table_text}

-- the name of a page
unfoldable pub page_name : List ℕ → List ℕ
page_name name = codes "Locking table of " ++ name

-- the title of a page, and its style
unfoldable pub title_text : List ℕ → List ℕ
title_text title =
    (start_tag tags.Title [] ++ escaped title ++ end_tag tags.Title)
    ++ (start_tag tags.Style [] ++ escaped STYLE.now ++ end_tag tags.Style)

-- the head of a page
unfoldable pub page_head : List ℕ → List ℕ
page_head title =
    start_tag tags.Head [] ++ empty_tag empty.Meta ((names.Charset, Value.Text (codes "utf-8")) ∷ [])
    ++ title_text title ++ end_tag tags.Head

-- what stands above the table
unfoldable pub heading_text : List ℕ → List ℕ
heading_text title =
    (start_tag tags.Heading [] ++ escaped title ++ end_tag tags.Heading)
    ++ (start_tag tags.Paragraph [] ++ escaped LEGEND.now ++ end_tag tags.Paragraph)

-- the body of a page
unfoldable pub page_body : List ℕ → List Row → SheetFields → List Lever → List ℕ
page_body title rows sheet levers =
    start_tag tags.Body [] ++ heading_text title ++ table_text rows sheet levers ++ end_tag tags.Body

-- a page begins
unfoldable pub begun_text : List ℕ
begun_text = prolog tags.Html ++ start_tag tags.Html ((names.Language, Value.Text (codes "en")) ∷ [])

-- the page of a locking table
abbrev pub page_text : List ℕ → List Lever → List Row → SheetFields → List ℕ
page_text name levers rows sheet =
    begun_text ++ page_head (page_name name) ++ page_body (page_name name) rows sheet levers ++ end_tag tags.Html

-- the page of the locking table with these rows, of a frame that has these levers
pub record IsLockingPage (name : List ℕ) (levers : List Lever) (rows : List Row) (text : List ℕ) : Type 0 where
  pub sheet : SheetFields
  pub is_sheet : IsSheet rows sheet
  pub is_page : text ≡ page_text name levers rows sheet
