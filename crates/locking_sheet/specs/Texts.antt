-- A locking table as a text.
use Rattle.std.specs.Prelude.{◌≡◌, ℕ, ◌+◌, List, [], ◌∷◌, ◌++◌, codes, decimal, nat_lt, if◌then◌else◌}
use Rattle.std.specs.Prelude.{length}
use Rattle.locking_table.specs.declared.row.Row.{Row}
use Rattle.line_plan.specs.declared.frame.Lever.{Lever}
use Rattle.line_plan.specs.Frames.{kind_word}
use Rattle.locking_sheet.specs.Items.{converse_text, item_text}
use Rattle.locking_sheet.specs.Lines.{LinesFields, begun, line_ended, put}
use Rattle.locking_sheet.specs.Sheets.{IsSheet, SheetFields, places_at, row_at}

-- the number of a lever in three columns
abbrev pub padded_text : ℕ → List ℕ
padded_text number =
    if nat_lt number 10 then codes "  " ++ decimal number
    else (if nat_lt number 100 then codes " " ++ decimal number else decimal number)

-- the beginning of a lever's lines
unfoldable pub lever_head : ℕ → List ℕ
lever_head lever = padded_text lever ++ codes ":"

-- one of the lever's own rows
abbrev pub own_onto : List ℕ → List Row → LinesFields → ℕ → LinesFields
own_onto head rows lines place =
    if nat_lt place (length rows) then put head lines (item_text (place + 1) (row_at rows place)) else lines

-- the lever's own rows
abbrev pub items_onto : List ℕ → List Row → LinesFields → List ℕ → LinesFields
items_onto head rows lines [] = lines
items_onto head rows lines (place ∷ places) = items_onto head rows (own_onto head rows lines place) places

-- one of the rows whose object it is
abbrev pub other_onto : List Row → LinesFields → ℕ → LinesFields
other_onto rows lines place =
    if nat_lt place (length rows)
    then put (codes "     |") lines (converse_text (place + 1) (row_at rows place)) else lines

-- the rows whose object it is
abbrev pub converses_onto : List Row → LinesFields → List ℕ → LinesFields
converses_onto rows lines [] = lines
converses_onto rows lines (place ∷ places) = converses_onto rows (other_onto rows lines place) places

-- behind a bar, what the lever works
unfoldable pub works_text : Lever → List ℕ
works_text lever = codes " | " ++ kind_word lever.kind ++ codes ";"

-- the line of a lever, which goes on where it is full: its rows, what it works, and the converse
unfoldable pub lever_onto : List Row → SheetFields → LinesFields → Lever → LinesFields
lever_onto rows sheet lines lever =
    line_ended
    (converses_onto rows
    (put (codes "    ")
    (items_onto (lever_head lever.number) rows (begun lines (lever_head lever.number))
    (places_at sheet.own lever.number))
    (works_text lever)) (places_at sheet.converse lever.number))

abbrev pub levers_onto : List Row → SheetFields → LinesFields → List Lever → LinesFields
levers_onto rows sheet lines [] = lines
levers_onto rows sheet lines (lever ∷ levers) = levers_onto rows sheet (lever_onto rows sheet lines lever) levers

-- what is told of the lines
unfoldable pub legend_text : List ℕ
legend_text =
    codes "# each lever's own rows; behind the bar what it works, and the converse of other levers' rows\n"

-- what stands above the lines
unfoldable pub title_text : List ℕ → List ℕ
title_text name = codes "# locking table of " ++ name ++ codes "\n" ++ legend_text

abbrev pub title_lines : List ℕ → LinesFields
title_lines name = record { text = title_text name; at = 0 }

-- the text of a locking table
unfoldable pub sheet_text : List ℕ → List Lever → List Row → SheetFields → List ℕ
sheet_text name levers rows sheet = (levers_onto rows sheet (title_lines name) levers).text

-- the text of the locking table with these rows
pub record IsSheetText (name : List ℕ) (levers : List Lever) (rows : List Row) (text : List ℕ) : Type 0 where
  pub sheet : SheetFields
  pub is_sheet : IsSheet rows sheet
  pub is_text : text ≡ sheet_text name levers rows sheet
