-- The text of a report.
use Rattle.std.specs.Prelude.{ℕ, ◌+◌, ◌-◌, ◌/◌, ◌%◌, List, [], ◌∷◌, ◌++◌, Bool, true, false, codes, decimal}
use Rattle.std.specs.Prelude.{Option, Some, None}
use Rattle.std.specs.Prelude.{if◌then◌else◌, length, nat_le, nat_lt, slice_index, slice_index_or}
use Rattle.std.specs.Global.{Vec}
use Rattle.std.specs.List.{flat_map, list_any}
use Rattle.locking_table.specs.declared.places.End.{End}
use Rattle.locking_table.specs.declared.places.End.TheVariants.{Normal, Reversed}
use Rattle.locking_table.specs.declared.row.Row.{Row}
use Rattle.locking_table.specs.Places.{end_at}
use Rattle.locking_table.specs.Printing.{row_text}
use Rattle.frame_walk.specs.States.{after_move, all_normal}
use Rattle.frame_findings.specs.declared.finding.Finding.{Finding}
use Rattle.frame_findings.specs.declared.finding.Finding.TheVariants.{First, Never, Open}
use Rattle.frame_findings.specs.declared.finding.Sequence.{Sequence}
use Rattle.frame_findings.specs.declared.finding.Sequence.TheVariants as sequence
use Rattle.row_covers.specs.declared.pairs.RowPair.{RowPair}
use Rattle.row_findings.specs.declared.uses.RowUse.{RowUse}
use Rattle.row_findings.specs.declared.uses.RowUse.TheVariants as uses
use Rattle.frame_report.specs.declared.asked.StatesWanted.{StatesWanted}
use Rattle.frame_report.specs.declared.report.LeverReport.{LeverReport}
use Rattle.frame_report.specs.declared.report.PairReport.{PairReport}
use Rattle.frame_report.specs.declared.report.RowReport.{RowReport}
use Rattle.frame_report.specs.declared.report.StatesReport.{StatesReport}
use Rattle.frame_report.specs.Report.{any_marked}

-- ---- the head

-- what is left out
unfoldable pub caveat_text : List ℕ
caveat_text = codes "by the locking table alone: tracks and instruments are left out, as if clear and free\n"

unfoldable pub no_proof_text : List ℕ
no_proof_text = codes "this is no proof of a layout's safety\n"

-- what the text speaks of, and what it leaves out
unfoldable pub head_text : List ℕ → List ℕ
head_text name = codes "states " ++ name ++ codes "\n" ++ caveat_text ++ no_proof_text

-- how many states were walked, and whether these are all
unfoldable pub count_text : ℕ → Bool → List ℕ
count_text count whole =
    codes "states that were walked: " ++ decimal count ++ codes "\n"
    ++ (if whole then codes "these are all that can be reached\n"
    else codes "not all states were walked, and of those that are left nothing is said\n")

-- ---- rows

-- a row that does something, by its number
unfoldable pub row_line : List ℕ → ℕ → Row → List ℕ
row_line does number row = codes "    row " ++ decimal number ++ does ++ row_text row ++ codes "\n"

-- whether the row at a place, from 0, is marked
abbrev pub is_marked : List Bool → ℕ → Bool
is_marked marks at = slice_index_or marks at false

-- the lines of the marked ones of the rows from a place on
abbrev pub marked_text : List ℕ → List Bool → ℕ → List Row → List ℕ
marked_text does marks at [] = []
marked_text does marks at (row ∷ rows) =
    (if is_marked marks at then row_line does (at + 1) row else []) ++ marked_text does marks (at + 1) rows

-- the numbers of rows, given by their places
abbrev pub places_text : List ℕ → List ℕ
places_text places = flat_map (λ at. codes " " ++ decimal (at + 1)) places

-- ---- levers that can never be reversed

-- the rows that hold a lever in every state
unfoldable pub blame_text : List Row → List Bool → List ℕ
blame_text rows marks =
    if any_marked marks then marked_text (codes " holds it in every state: ") marks 0 rows
    else codes "    no row alone holds it in every state\n"

unfoldable pub round_text : List ℕ
round_text = codes "    round the rows"

-- the rows of the circle to which a chain leads from a lever, if to one
unfoldable pub circle_line : List ℕ → List ℕ
circle_line circle = round_text ++ places_text circle ++ codes "\n"

abbrev pub circle_text : List ℕ → List ℕ
circle_text [] = []
circle_text (at ∷ circle) = circle_line (at ∷ circle)

unfoldable pub frozen_text : List Row → ℕ → List Bool → List ℕ → List ℕ
frozen_text rows number marks circle =
    codes "lever " ++ decimal number ++ codes " can never be reversed\n" ++ blame_text rows marks
    ++ circle_text circle

-- the lines of a lever, if it can never be reversed
abbrev pub lever_text : List Row → LeverReport → Finding → List ℕ → List ℕ
lever_text rows lever (First at) circle = []
lever_text rows lever Never circle = frozen_text rows lever.number lever.holding.items circle
lever_text rows lever Open circle = []

-- the lines of all these levers, each with its circle
abbrev pub frozens_text : List Row → List LeverReport → List (Vec ℕ) → List ℕ
frozens_text rows [] circles = []
frozens_text rows (lever ∷ levers) [] = []
frozens_text rows (lever ∷ levers) (circle ∷ circles) =
    lever_text rows lever lever.own circle.items ++ frozens_text rows levers circles

-- ---- levers that can be reversed together

abbrev pub sign_text : Finding → List ℕ
sign_text (First at) = codes " ."
sign_text Never = codes " x"
sign_text Open = codes " ?"

-- the same, where a way was found beside the walk
abbrev pub sign_with : Bool → Finding → List ℕ
sign_with true finding = codes " ."
sign_with false finding = sign_text finding

-- the digit of a lever's number at a power of ten
unfoldable pub digit_text : ℕ → ℕ → List ℕ
digit_text power number =
    if nat_lt number power then codes "  " else codes " " ++ decimal ((number / power) % 10)

-- the digits of the levers' numbers at a power of ten, if any has one
abbrev pub digits_text : ℕ → List ℕ → List ℕ
digits_text power numbers =
    if list_any (λ number. nat_le power number) numbers
    then codes "   " ++ flat_map (digit_text power) numbers ++ codes "\n" else []

-- a number in three columns
unfoldable pub padded_text : ℕ → List ℕ
padded_text number =
    if nat_lt number 10 then codes "  " ++ decimal number
    else (if nat_lt number 100 then codes " " ++ decimal number else decimal number)

-- a lever's line of the triangle: each lever before it, and itself
unfoldable pub triangle_line : LeverReport → List ℕ
triangle_line lever =
    padded_text lever.number ++ flat_map (λ pair. sign_with pair.has_way pair.finding) lever.others.items
    ++ sign_with lever.has_way lever.own ++ codes "\n"

-- two levers that rows refute are ever reversed together
unfoldable pub refuted_line : ℕ → ℕ → List ℕ → List ℕ
refuted_line number other places =
    codes "levers " ++ decimal other ++ codes " " ++ decimal number ++ codes " never, by rows" ++ places_text places
    ++ codes "\n"

abbrev pub pair_text : ℕ → ℕ → List ℕ → List ℕ
pair_text number other [] = []
pair_text number other (at ∷ places) = refuted_line number other (at ∷ places)

-- the lines of a lever and each of the levers from a place on
abbrev pub pairs_text : List ℕ → ℕ → ℕ → List PairReport → List ℕ
pairs_text numbers number k [] = []
pairs_text numbers number k (pair ∷ pairs) =
    pair_text number (slice_index numbers k) pair.rows.items ++ pairs_text numbers number (k + 1) pairs

-- the lines of all levers
abbrev pub refuted_text : List ℕ → List LeverReport → List ℕ
refuted_text numbers levers = flat_map (λ lever. pairs_text numbers lever.number 0 lever.others.items) levers

abbrev pub signs_text : Bool → List ℕ
signs_text whole =
    if whole then codes "reversed together: . they can be, x never\n"
    else codes "reversed together: . they can be, x never, ? not found\n"

-- the triangle of all pairs
unfoldable pub together_text : Bool → List ℕ → List LeverReport → List ℕ
together_text whole numbers levers =
    signs_text whole ++ digits_text 100 numbers ++ digits_text 10 numbers ++ digits_text 1 numbers
    ++ flat_map triangle_line levers ++ refuted_text numbers levers

-- ---- redundant rows

abbrev pub is_redundant : RowUse → Bool
is_redundant uses.Needed = false
is_redundant uses.Redundant = true
is_redundant uses.Open = false

-- two rows that together hold all that a redundant one holds
unfoldable pub cover_line : RowPair → List ℕ
cover_line pair =
    codes "    rows " ++ decimal (pair.one + 1) ++ codes " " ++ decimal (pair.two + 1)
    ++ codes " together hold as much\n"

-- the same, if two are told
abbrev pub cover_text : Option RowPair → List ℕ
cover_text None = []
cover_text (Some pair) = cover_line pair

-- the rows that hold as much as a redundant one: each by itself, or two together
unfoldable pub as_much_text : List Row → RowReport → List ℕ
as_much_text rows report =
    marked_text (codes " holds all that it holds: ") report.covering.items 0 rows ++ cover_text report.pair

unfoldable pub redundant_text : List Row → ℕ → Row → RowReport → List ℕ
redundant_text rows number row report =
    codes "row " ++ decimal number ++ codes " is redundant: " ++ row_text row ++ codes "\n"
    ++ as_much_text rows report

-- the lines of the redundant ones of the rows from a place on
abbrev pub redundants_text : List Row → ℕ → List Row → List RowReport → List ℕ
redundants_text all at [] reports = []
redundants_text all at (row ∷ rows) [] = []
redundants_text all at (row ∷ rows) (report ∷ reports) =
    (if is_redundant report.row_use then redundant_text all (at + 1) row report else [])
    ++ redundants_text all (at + 1) rows reports

-- that each row is redundant while all others stay, or that none is
unfoldable pub redundancy_text : Bool → List RowReport → List ℕ
redundancy_text whole reports =
    if list_any (λ report. is_redundant report.row_use) reports
    then codes "each row that is redundant is so while all others stay\n"
    else (if whole then codes "no row is redundant\n" else [])

-- ---- sequences

-- a move of a lever, from the end at which it stands
unfoldable pub move_text : End → ℕ → List ℕ
move_text Normal number = codes "    pull " ++ decimal number ++ codes "\n"
move_text Reversed number = codes "    put " ++ decimal number ++ codes "\n"

-- the moves of these levers, given by their places, from a state on
abbrev pub moves_text : List ℕ → List End → List ℕ → List ℕ
moves_text numbers ends [] = []
moves_text numbers ends (lever ∷ path) =
    move_text (end_at ends lever) (slice_index numbers (lever - 1)) ++ moves_text numbers (after_move ends lever) path

-- no state was found, and rows may refute that there is one
unfoldable pub open_text : List ℕ → List ℕ
open_text [] = codes "    no state that was walked has them reversed together\n"
open_text (at ∷ places) = codes "    never, by rows" ++ places_text (at ∷ places) ++ codes "\n"

unfoldable pub beside_text : List ℕ
beside_text = codes "    found beside the walk; there may be a shorter sequence\n"

-- a way that was found beside the walk
unfoldable pub way_text : List ℕ → List ℕ → List ℕ
way_text numbers path = beside_text ++ moves_text numbers (all_normal (length numbers)) path

-- the same, or what is said where there is none
abbrev pub way_or : List ℕ → Option (Vec ℕ) → List ℕ → List ℕ
way_or numbers None places = open_text places
way_or numbers (Some path) places = way_text numbers path.items

abbrev pub sequence_text : List ℕ → Sequence → List ℕ → Option (Vec ℕ) → List ℕ
sequence_text numbers (sequence.Moves path) places way = moves_text numbers (all_normal (length numbers)) path.items
sequence_text numbers sequence.Never places way = codes "    no sequence of pulls and puts reverses them together\n"
sequence_text numbers sequence.Open places way = way_or numbers way places

abbrev pub numbers_text : List ℕ → List ℕ
numbers_text numbers = flat_map (λ number. codes " " ++ decimal number) numbers

-- what was asked of levers, if of any, and the answer
unfoldable pub asked_text : List ℕ → List ℕ → List ℕ → Sequence → List ℕ → Option (Vec ℕ) → List ℕ
asked_text asks numbers levers sequence places way =
    asks ++ numbers_text levers ++ codes "\n" ++ sequence_text numbers sequence places way

abbrev pub answer_text : List ℕ → List ℕ → List ℕ → Sequence → List ℕ → Option (Vec ℕ) → List ℕ
answer_text asks numbers [] sequence places way = []
answer_text asks numbers (lever ∷ levers) sequence places way =
    asked_text asks numbers (lever ∷ levers) sequence places way

-- ---- the whole

-- what is said of the levers of a box
unfoldable pub levers_text : List ℕ → List Row → StatesReport → List ℕ
levers_text numbers rows report =
    frozens_text rows report.levers.items report.circles.items
    ++ together_text report.whole numbers report.levers.items

-- what is said of its rows
unfoldable pub rows_text : List Row → StatesReport → List ℕ
rows_text rows report =
    redundancy_text report.whole report.rows.items ++ redundants_text rows 0 rows report.rows.items

-- the answers to what was asked
unfoldable pub answers_text : List ℕ → StatesWanted → StatesReport → List ℕ
answers_text numbers wanted report =
    answer_text (codes "reach") numbers wanted.reach.items report.reach report.reach_rows.items report.reach_way
    ++ answer_text (codes "never") numbers wanted.never.items report.never report.never_rows.items report.never_way

-- the text of a report on the frame of a box that has these levers and rows
unfoldable pub states_text : List ℕ → List ℕ → List Row → StatesWanted → StatesReport → List ℕ
states_text name numbers rows wanted report =
    head_text name ++ count_text report.count report.whole ++ levers_text numbers rows report
    ++ rows_text rows report ++ answers_text numbers wanted report
