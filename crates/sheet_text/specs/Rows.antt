-- The rows of a sheet: its lines, each with its remarks below it.
use Rattle.std.specs.Prelude.{ℕ, ◌+◌, ◌==◌, Bool, true, false, not, ◌&&◌, List, [], ◌∷◌, ◌++◌, Option, Some, None}
use Rattle.std.specs.Prelude.{length, map, filter, nat_lt, if◌then◌else◌}
use Rattle.block_words.specs.declared.Way.{Way}
use Rattle.line_plan.specs.Frames.{same_way}
use Rattle.register_sheet.specs.declared.sheet.Line.{Line}
use Rattle.register_sheet.specs.declared.sheet.Remark.{Remark}
use Rattle.register_sheet.specs.Sheets.{SheetFields}
use Rattle.sheet_text.specs.declared.rows.Row.{Row}
use Rattle.sheet_text.specs.declared.rows.Row.TheVariants as rows

-- a remark is of the line of this number
abbrev pub is_line : ℕ → Option ℕ → Bool
is_line number None = false
is_line number (Some line) = line == number

-- the entries among the remarks of a line, in order
abbrev pub remarks_of : ℕ → List Remark → List ℕ
remarks_of number remarks = map (λ remark. remark.entry) (filter (λ remark. is_line number remark.line) remarks)

-- one of so many lines
abbrev pub is_among : ℕ → Option ℕ → Bool
is_among lines None = false
is_among lines (Some line) = nat_lt line lines

-- a remark stands at the head of the sheet of a way: it is of no line
abbrev pub is_of_sheet : Way → ℕ → Remark → Bool
is_of_sheet way lines remark = not (is_among lines remark.line) && same_way remark.way way

-- the rows at the head of the sheet of a way
abbrev pub sheet_remarks : Way → ℕ → List Remark → List Row
sheet_remarks way lines remarks =
    map (λ remark. rows.Remark remark.entry) (filter (is_of_sheet way lines) remarks)

-- a line with its remarks
abbrev pub line_rows : ℕ → Line → List ℕ → List Row
line_rows number line entries = rows.Line number line ∷ map (λ entry. rows.Remark entry) entries

-- the lines of a way among these, of which the first is the one of the box with the second number, and on its sheet has
-- the first number
abbrev pub rows_from : Way → ℕ → ℕ → List Remark → List Line → List Row
rows_from way number at remarks [] = []
rows_from way number at remarks (line ∷ lines) =
    if same_way line.way way
    then line_rows number line (remarks_of at remarks) ++ rows_from way (number + 1) (at + 1) remarks lines
    else rows_from way number (at + 1) remarks lines

-- the rows of the sheet of a way
abbrev pub rows_of : Way → SheetFields → List Row
rows_of way sheet =
    sheet_remarks way (length sheet.lines) sheet.remarks ++ rows_from way 1 0 sheet.remarks sheet.lines
