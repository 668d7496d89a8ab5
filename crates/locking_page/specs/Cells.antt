-- The cells of a lever's line: its own rows by what they ask, and the converse of other levers' rows.
use Rattle.std.specs.Prelude.{ℕ, ◌+◌, List, [], ◌∷◌, ◌++◌, Bool, true, false, codes, decimal, nat_lt, length}
use Rattle.std.specs.Prelude.{if◌then◌else◌}
use Rattle.std.specs.List.{flat_map}
use Rattle.locking_table.specs.declared.row.Row.{Row}
use Rattle.locking_table.specs.declared.row.RowKind.{RowKind}
use Rattle.locking_table.specs.declared.row.RowKind.TheVariants.{LocksNormal, ReleasedBy, LocksBoth}
use Rattle.locking_sheet.specs.Items.{conds_text, converse_text}
use Rattle.locking_sheet.specs.Sheets.{row_at}
use Rattle.mark_up.specs.declared.attributes.Name.TheVariants as names
use Rattle.mark_up.specs.declared.tags.Tag.TheVariants as tags
use Rattle.mark_up.specs.Attributes.{ValueFields as Value}
use Rattle.mark_up.specs.Documents.{end_tag, start_tag}
use Rattle.mark_up.specs.Escapes.{escaped}

-- a row of this kind stands in the column of that kind
abbrev pub is_in : RowKind → RowKind → Bool
is_in LocksNormal LocksNormal = true
is_in ReleasedBy ReleasedBy = true
is_in LocksBoth LocksBoth = true
is_in kind column = false

-- what a row says under the heading of its column: its object, and its conditions
unfoldable pub object_text : Row → List ℕ
object_text row = decimal row.object ++ conds_text row.when

-- the number of a row, behind what it says
unfoldable pub number_text : ℕ → List ℕ
number_text number = codes " #" ++ decimal number ++ codes ";"

-- the beginning of a part with this class
unfoldable pub part_start : List ℕ → List ℕ
part_start class = start_tag tags.Division ((names.Class, Value.Text class) ∷ [])

-- a part with this class and this text
unfoldable pub part_text : List ℕ → List ℕ → List ℕ
part_text class said = part_start class ++ escaped said ++ end_tag tags.Division

-- a row at its subject
unfoldable pub own_text : ℕ → Row → List ℕ
own_text number row =
    part_start (codes "own") ++ escaped (object_text row) ++ part_text (codes "number") (number_text number)
    ++ end_tag tags.Division

-- a row at its subject, in a column
abbrev pub own_in : RowKind → ℕ → Row → List ℕ
own_in column number row = if is_in row.kind column then own_text number row else []

-- one of the lever's own rows, in a column
abbrev pub own_at : List Row → RowKind → ℕ → List ℕ
own_at rows column place = if nat_lt place (length rows) then own_in column (place + 1) (row_at rows place) else []

-- the lever's own rows in a column, each once, in order
abbrev pub owns_text : List Row → RowKind → List ℕ → List ℕ
owns_text rows column places = flat_map (own_at rows column) places

-- the cell of a column
unfoldable pub column_text : List Row → List ℕ → RowKind → List ℕ
column_text rows places column = start_tag tags.Cell [] ++ owns_text rows column places ++ end_tag tags.Cell

-- a row at its object
unfoldable pub other_text : ℕ → Row → List ℕ
other_text number row = part_text (codes "other") (converse_text number row)

-- one of the rows whose object the lever is
abbrev pub other_at : List Row → ℕ → List ℕ
other_at rows place = if nat_lt place (length rows) then other_text (place + 1) (row_at rows place) else []

-- the rows whose object the lever is, each once, in order
abbrev pub others_text : List Row → List ℕ → List ℕ
others_text rows places = flat_map (other_at rows) places

-- the cell of the converse
unfoldable pub converse_cell : List Row → List ℕ → List ℕ
converse_cell rows places = start_tag tags.Cell [] ++ others_text rows places ++ end_tag tags.Cell
