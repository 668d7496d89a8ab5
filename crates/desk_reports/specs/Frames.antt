-- The frame of a box as `tables` prints it.
use Rattle.std.specs.Prelude.{ℕ, ◌+◌, List, [], ◌∷◌, ◌++◌, length, Option, Some, None, bytes_eq, codes, decimal}
use Rattle.std.specs.List.{flat_map, position}
use Rattle.rail_text.specs.declared.cause.Cause.TheVariants as causes
use Rattle.locking_table.specs.Printing.{row_text}
use Rattle.locking_table.specs.declared.row.Row.{Row}
use Rattle.line_plan.specs.Frames.{BoxFields}
use Rattle.line_plan.specs.Plans.{PlanFields, box_at, names_of}
use Rattle.line_plan.specs.Frames.{kind_word}
use Rattle.line_plan.specs.declared.frame.Kind.{Kind}
use Rattle.line_plan.specs.declared.frame.Kind.TheVariants as kinds
use Rattle.line_plan.specs.declared.frame.Lever.{Lever}
use Rattle.text_fetch.specs.FromTexts.{FromTexts, Gives, Held, Refuses, plan_told, told_then}

-- ---- the text

-- the colour in which the levers of a kind are painted
abbrev pub colour_word : Kind → List ℕ
colour_word kinds.Signal = codes "red"
colour_word kinds.Points = codes "black"
colour_word kinds.Lock = codes "blue"
colour_word kinds.Distant = codes "yellow"
colour_word kinds.Spare = codes "white"

-- a lever's line: its number, its kind and its colour
unfoldable pub lever_text : Lever → List ℕ
lever_text lever = codes "lever " ++ decimal lever.number ++ 32 ∷ kind_word lever.kind ++ 32 ∷ colour_word lever.kind
    ++ 10 ∷ []

-- a row's line, with its number
unfoldable pub numbered_row : ℕ → Row → List ℕ
numbered_row number row = decimal number ++ 32 ∷ row_text row ++ 10 ∷ []

-- the lines of rows that are numbered from this number on
abbrev pub rows_text : ℕ → List Row → List ℕ
rows_text number [] = []
rows_text number (row ∷ rows) = numbered_row number row ++ rows_text (number + 1) rows

-- the name of the box, its levers in their order, and the rows of its locking table, numbered from 1
unfoldable pub frame_text : BoxFields → List ℕ
frame_text box_plan =
    codes "frame " ++ box_plan.name ++ 10 ∷ flat_map lever_text box_plan.levers ++ codes "rows "
    ++ decimal (length box_plan.rows) ++ 10 ∷ rows_text 1 box_plan.rows

-- ---- what `tables` makes of a plan

-- the number of the box with this name
abbrev pub box_named : PlanFields → List ℕ → Option ℕ
box_named plan name = position (bytes_eq name) (names_of plan.boxes)

-- the box that was looked up; where no box has the name, the plan's text is refused at its line 0
abbrev pub box_told : PlanFields → Option ℕ → FromTexts BoxFields
box_told plan None = Refuses 1 (record { line = 0; cause = causes.UnknownName })
box_told plan (Some b) = Gives (box_at plan.boxes b)

-- the frame of the box with this name
abbrev pub frame_told : PlanFields → List ℕ → FromTexts (List ℕ)
frame_told plan name = told_then (box_told plan (box_named plan name)) (λ box_plan. Gives (frame_text box_plan))

-- what `tables` makes of the text that its words name: the frame of the plan's box with this name
abbrev pub plan_frame_told : Held → List ℕ → List ℕ → FromTexts (List ℕ)
plan_frame_told held plan_name name = told_then (plan_told held plan_name) (λ plan. frame_told plan name)
