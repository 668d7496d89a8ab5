-- The sheets of a box, by its entries.
use Rattle.std.specs.Prelude.{ℕ, ◌+◌, ◌==◌, Bool, false, List, [], ◌∷◌, ◌++◌, Option, Some, None, length}
use Rattle.std.specs.Prelude.{sum_by, if◌then◌else◌}
use Rattle.block_words.specs.declared.Way.{Way}
use Rattle.line_law.specs.declared.call.Entry.{Entry}
use Rattle.line_plan.specs.Plans.{PlanFields}
use Rattle.register_sheet.specs.declared.pages.Pages.{Pages}
use Rattle.register_sheet.specs.declared.sheet.Line.{Line}
use Rattle.register_sheet.specs.declared.sheet.Remark.{Remark}
use Rattle.register_sheet.specs.declared.spot.Spot.{Spot}
use Rattle.register_sheet.specs.declared.spot.Spot.TheVariants as spots
use Rattle.register_sheet.specs.Events.{event_of}
use Rattle.register_sheet.specs.Lines.{filled_at, is_free, new_line}
use Rattle.register_sheet.specs.Spots.{no_pages, spot_by}

-- the sheets of a box, as contracts see them: what is open, the lines, the remarks, and the entries beside the sheets
pub record SheetFields : Type 0 where
  pub pages : Pages
  pub lines : List Line
  pub remarks : List Remark
  pub beside : List ℕ

-- nothing is written
abbrev pub no_sheet : SheetFields
no_sheet = record { pages = no_pages; lines = []; remarks = []; beside = [] }

-- an entry more among the remarks
abbrev pub with_remark : ℕ → Way → Option ℕ → SheetFields → SheetFields
with_remark entry way line sheet =
    record sheet { remarks = sheet.remarks ++ record { entry = entry; way = way; line = line } ∷ [] }

-- an entry where it stands; one whose column has another stands among the remarks of that line
abbrev pub put : ℕ → Spot → SheetFields → SheetFields
put entry (spots.NewLine way code column) sheet =
    record sheet { lines = sheet.lines ++ new_line way code column entry ∷ [] }
put entry (spots.Written way line column) sheet =
    if is_free sheet.lines line column
    then record sheet { lines = filled_at line column entry sheet.lines }
    else with_remark entry way (Some line) sheet
put entry (spots.Remark way line) sheet = with_remark entry way line sheet
put entry spots.Beside sheet = record sheet { beside = sheet.beside ++ entry ∷ [] }

-- the sheets after an entry of the box with this number
abbrev pub written : PlanFields → ℕ → Entry → SheetFields → SheetFields
written plan number e sheet =
    put number (spot_by plan (length sheet.lines) (event_of plan e) sheet.pages).spot
    (record sheet { pages = (spot_by plan (length sheet.lines) (event_of plan e) sheet.pages).pages })

-- the sheets of box b after these entries, of which the first has this number
abbrev pub sheet_from : PlanFields → ℕ → ℕ → SheetFields → List Entry → SheetFields
sheet_from plan b number sheet [] = sheet
sheet_from plan b number sheet (e ∷ es) =
    sheet_from plan b (number + 1) (if e.box_no == b then written plan number e sheet else sheet) es

-- the sheets of box b by a journal, whose entries are numbered from 0
abbrev pub sheet_of : PlanFields → ℕ → List Entry → SheetFields
sheet_of plan b es = sheet_from plan b 0 no_sheet es

-- ---- where an entry stands

-- whether it is the same entry, as a number
abbrev pub is_same : ℕ → ℕ → ℕ
is_same number entry = if entry == number then 1 else 0

-- how often the entry of this number stands in a cell, in a line, and in the sheets: in a column, among the remarks, or
-- beside
abbrev pub times_at : ℕ → Option ℕ → ℕ
times_at number None = 0
times_at number (Some entry) = is_same number entry

abbrev pub times_in_line : ℕ → Line → ℕ
times_in_line number line = sum_by (times_at number) line.cells

abbrev pub times_in : ℕ → SheetFields → ℕ
times_in number sheet =
    sum_by (times_in_line number) sheet.lines
    + sum_by (λ remark. is_same number remark.entry) sheet.remarks
    + sum_by (is_same number) sheet.beside

-- the entry of this number, among those of a journal from this one on, is one of box b
abbrev pub is_own : ℕ → ℕ → ℕ → List Entry → Bool
is_own b number first [] = false
is_own b number first (e ∷ es) =
    if first == number then e.box_no == b else is_own b number (first + 1) es
