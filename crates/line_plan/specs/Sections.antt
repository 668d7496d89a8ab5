-- The sections of a line: each from the starter of its rear box to the berth of its box in advance.
use Rattle.std.specs.Prelude.{ℕ, ◌+◌, ◌-◌, zero, suc, List, [], ◌∷◌, ◌++◌, Option, None, Some, length, IsTrue}
use Rattle.block_words.specs.declared.Way.{Way}
use Rattle.block_words.specs.declared.Way.TheVariants.{Up, Down}
use Rattle.line_plan.specs.Frames.{starter_of, berth_of}
use Rattle.line_plan.specs.Plans.{PlanFields, box_at, box_name}
use Rattle.line_plan.specs.Ways.{leaves, way_word}
use Rattle.line_plan.specs.declared.berth.Berth.{Berth}
use Rattle.line_plan.specs.declared.section.Section.{Section}
use Rattle.line_plan.specs.declared.signal.Signal.{Signal}

-- a section of the plan: the line of its way leaves its rear box to a neighbour
abbrev pub IsSection : PlanFields → Section → Type 0
IsSection plan section = IsTrue (leaves (length plan.boxes) section.rear section.way)

-- the box to which the line of a way leads
abbrev pub next_box : ℕ → Way → ℕ
next_box b Up = b - 1
next_box b Down = b + 1

-- the box in advance of a section
abbrev pub advance_of : Section → ℕ
advance_of section = next_box section.rear section.way

-- a section as it is named: its way, its rear box and its box in advance
abbrev pub section_name : PlanFields → Section → List ℕ
section_name plan section =
    way_word section.way ++ 32 ∷ box_name plan section.rear ++ 32 ∷ box_name plan (advance_of section)

-- the starter of a section, at its rear box
abbrev pub section_starter : PlanFields → Section → Option Signal
section_starter plan section = starter_of (box_at plan.boxes section.rear) section.way

-- the berth of a section, at its box in advance
abbrev pub section_berth : PlanFields → Section → Option Berth
section_berth plan section = berth_of (box_at plan.boxes (advance_of section)) section.way

-- how many trains a line may hold: as many as it is permissive of, or one
abbrev pub most_of : Option ℕ → ℕ
most_of None = 1
most_of (Some n) = n

-- the limit of a line by its berth; one without a berth is absolute
abbrev pub limit_at : Option Berth → ℕ
limit_at None = 1
limit_at (Some berth) = most_of berth.permissive

-- the most trains that a section may hold
abbrev pub limit_of : PlanFields → Section → ℕ
limit_of plan section = limit_at (section_berth plan section)

-- the sections of so many pairs of neighbours, from box b and the next on: of each pair the down line's, then the up
-- line's
abbrev pub sections_from : ℕ → ℕ → List Section
sections_from b zero = []
sections_from b (suc pairs) =
    record { rear = b; way = Down } ∷ record { rear = b + 1; way = Up } ∷ sections_from (b + 1) pairs

-- the sections of a line, in the order in which they are printed
abbrev pub sections_of : PlanFields → List Section
sections_of plan = sections_from 0 (length plan.boxes - 1)
