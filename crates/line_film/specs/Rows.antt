-- The entries of a journal, as rows of a table.
use Rattle.std.specs.Prelude.{ℕ, Bool, true, false, List, [], ◌∷◌, ◌++◌, Option, Some, None, codes, decimal}
use Rattle.std.specs.List.{flat_map}
use Rattle.entry_records.specs.Fields.{EntryFields}
use Rattle.mark_up.specs.declared.attributes.Name.TheVariants as names
use Rattle.mark_up.specs.declared.tags.Tag.TheVariants as tags
use Rattle.mark_up.specs.Attributes.{ValueFields as Value}
use Rattle.mark_up.specs.Documents.{end_tag, start_tag}
use Rattle.mark_up.specs.Escapes.{escaped}

-- ---- an entry

-- how the row of an entry is marked
abbrev pub class_of : Bool → List ℕ
class_of true = codes "done"
class_of false = codes "refused"

-- the row of an entry begins, on a line of its own
unfoldable pub entry_start : List ℕ → List ℕ
entry_start class =
    escaped (codes "\n") ++ start_tag tags.TableRow ((names.Class, Value.Text class) ∷ [])

-- the number of an entry, which is the head of its row
unfoldable pub number_html : ℕ → List ℕ
number_html number =
    start_tag tags.HeadCell ((names.Scope, Value.Text (codes "row")) ∷ []) ++ escaped (decimal number)
    ++ end_tag tags.HeadCell

-- what is told in a column
unfoldable pub cell_html : List ℕ → List ℕ
cell_html text = start_tag tags.Cell [] ++ escaped text ++ end_tag tags.Cell

-- the box, the moment, the call and the reply of an entry
unfoldable pub call_cells : EntryFields → List ℕ
call_cells fields =
    cell_html fields.box_name ++ cell_html fields.at ++ cell_html fields.call ++ cell_html fields.reply

-- a sentence, or nothing
abbrev pub says_text : Option (List ℕ) → List ℕ
says_text None = []
says_text (Some says) = says

-- the row of an entry, with its sentence where it is refused
unfoldable pub entry_html : EntryFields → List ℕ
entry_html fields =
    entry_start (class_of fields.done) ++ number_html fields.n ++ call_cells fields ++ cell_html (says_text fields.says)
    ++ end_tag tags.TableRow

-- the rows of entries, each once, in order
abbrev pub rows_html : List EntryFields → List ℕ
rows_html told = flat_map entry_html told

-- ---- the table

-- the head of a column
unfoldable pub column_html : List ℕ → List ℕ
column_html name =
    start_tag tags.HeadCell ((names.Scope, Value.Text (codes "col")) ∷ []) ++ escaped name ++ end_tag tags.HeadCell

-- the heads of the columns that say where an entry stands, and of those that say what was done
unfoldable pub place_columns : List ℕ
place_columns = column_html (codes "No") ++ column_html (codes "Box") ++ column_html (codes "Time")

unfoldable pub deed_columns : List ℕ
deed_columns =
    column_html (codes "Call") ++ column_html (codes "Reply") ++ column_html (codes "Why it is refused")

-- the heads of the columns
unfoldable pub columns_html : List ℕ
columns_html = place_columns ++ deed_columns

-- the head of the table
unfoldable pub heads_html : List ℕ
heads_html =
    start_tag tags.TableHead [] ++ start_tag tags.TableRow [] ++ columns_html ++ end_tag tags.TableRow
    ++ end_tag tags.TableHead

-- the body of the table
unfoldable pub body_html : List EntryFields → List ℕ
body_html told =
    start_tag tags.TableBody ((names.Id, Value.Text (codes "journal")) ∷ []) ++ rows_html told ++ end_tag tags.TableBody

-- the table of the entries
unfoldable pub journal_html : List EntryFields → List ℕ
journal_html told =
    start_tag tags.Division ((names.Id, Value.Text (codes "entries")) ∷ []) ++ start_tag tags.Table [] ++ heads_html
    ++ body_html told ++ end_tag tags.Table ++ end_tag tags.Division
