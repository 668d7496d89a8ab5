-- The table of a page: its heads, and a line for each lever.
use Rattle.std.specs.Prelude.{ℕ, List, [], ◌∷◌, ◌++◌, codes, decimal}
use Rattle.std.specs.List.{flat_map}
use Rattle.locking_table.specs.declared.row.Row.{Row}
use Rattle.locking_table.specs.declared.row.RowKind.TheVariants.{LocksNormal, ReleasedBy, LocksBoth}
use Rattle.line_plan.specs.declared.frame.Lever.{Lever}
use Rattle.line_plan.specs.Frames.{kind_word}
use Rattle.locking_sheet.specs.Sheets.{SheetFields, places_at}
use Rattle.mark_up.specs.declared.attributes.Name.TheVariants as names
use Rattle.mark_up.specs.declared.tags.Tag.TheVariants as tags
use Rattle.mark_up.specs.Attributes.{ValueFields as Value}
use Rattle.mark_up.specs.Documents.{end_tag, start_tag}
use Rattle.mark_up.specs.Escapes.{escaped}
use Rattle.locking_page.specs.declared.lines.TheConstants.{CONVERSE, LEVER, LOCKS_BOTH, LOCKS_NORMAL, RELEASED_BY}
use Rattle.locking_page.specs.declared.lines.TheConstants.{WORKS}
use Rattle.locking_page.specs.Cells.{column_text, converse_cell}

-- a head of a column or of a line
unfoldable pub head_text : List ℕ → List ℕ → List ℕ
head_text scope said =
    start_tag tags.HeadCell ((names.Scope, Value.Text scope) ∷ []) ++ escaped said ++ end_tag tags.HeadCell

-- the head of a lever's line: its number; and what it works
unfoldable pub lever_text : Lever → List ℕ
lever_text lever =
    head_text (codes "row") (decimal lever.number)
    ++ (start_tag tags.Cell [] ++ escaped (kind_word lever.kind) ++ end_tag tags.Cell)

-- the lever's own rows, in three columns
unfoldable pub columns_text : List Row → List ℕ → List ℕ
columns_text rows places =
    column_text rows places ReleasedBy ++ column_text rows places LocksNormal ++ column_text rows places LocksBoth

-- the line of a lever, with the class of what it works
unfoldable pub line_text : List Row → SheetFields → Lever → List ℕ
line_text rows sheet lever =
    escaped (codes "\n") ++ start_tag tags.TableRow ((names.Class, Value.Text (kind_word lever.kind)) ∷ [])
    ++ lever_text lever ++ columns_text rows (places_at sheet.own lever.number)
    ++ converse_cell rows (places_at sheet.converse lever.number) ++ end_tag tags.TableRow

-- each lever's line once, in order
abbrev pub lines_text : List Row → SheetFields → List Lever → List ℕ
lines_text rows sheet levers = flat_map (line_text rows sheet) levers

-- the body of the table
unfoldable pub body_text : List Row → SheetFields → List Lever → List ℕ
body_text rows sheet levers = start_tag tags.TableBody [] ++ lines_text rows sheet levers ++ end_tag tags.TableBody

-- the head of a column
unfoldable pub column_head : List ℕ → List ℕ
column_head said = head_text (codes "col") said

-- the heads of the first columns
unfoldable pub first_heads : List ℕ
first_heads = column_head LEVER.now ++ column_head WORKS.now ++ column_head RELEASED_BY.now

-- those of the others
unfoldable pub other_heads : List ℕ
other_heads = column_head LOCKS_NORMAL.now ++ column_head LOCKS_BOTH.now ++ column_head CONVERSE.now

-- the head of the table, which stands on each printed page
unfoldable pub table_head : List ℕ
table_head =
    start_tag tags.TableHead [] ++ start_tag tags.TableRow [] ++ first_heads ++ other_heads
    ++ end_tag tags.TableRow ++ end_tag tags.TableHead

-- the table
unfoldable pub table_text : List Row → SheetFields → List Lever → List ℕ
table_text rows sheet levers =
    start_tag tags.Table [] ++ table_head ++ body_text rows sheet levers ++ end_tag tags.Table
