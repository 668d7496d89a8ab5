-- The words that name things of a plan and of its boxes, and the numbers of these.
use Rattle.std.specs.Prelude.{ℕ, ◌+◌, List, [], ◌∷◌, Option, position, bytes_eq, slice_index_or, option_map}
use Rattle.bell_codes.specs.Codes.{code_text}
use Rattle.bell_codes.specs.Reading.{code_of}
use Rattle.bell_codes.specs.Table.{code_at, code_number}
use Rattle.block_words.specs.declared.Position.{Position}
use Rattle.block_words.specs.declared.Position.TheVariants.{Normal, LineClear, TrainOnLine}
use Rattle.block_words.specs.declared.Way.{Way}
use Rattle.block_words.specs.declared.Way.TheVariants.{Up, Down}
use Rattle.std.specs.Prelude.{Some, None, codes, if◌then◌else◌}
use Rattle.line_plan.specs.Plans.{PlanFields, box_at, names_of_trains, train_at}

-- ---- as they are printed

-- a position's word
abbrev pub position_text : Position → List ℕ
position_text Normal = codes "normal"
position_text LineClear = codes "line_clear"
position_text TrainOnLine = codes "train_on_line"

-- the text of a code by its number
abbrev pub code_no_text : List (List ℕ) → ℕ → List ℕ
code_no_text table number = code_text (code_at table number)

-- the name of a place of box b
abbrev pub place_text : PlanFields → ℕ → ℕ → List ℕ
place_text plan b place = slice_index_or (box_at plan.boxes b).places place []

-- the name of a train
abbrev pub train_text : PlanFields → ℕ → List ℕ
train_text plan train = (train_at plan.trains train).name

-- ---- as they are read

-- what the first of these rows with this word has
abbrev pub row_named : {A : Type 0} → List (List ℕ × A) → List ℕ → Option A
row_named [] word = None
row_named (row ∷ rows) word = if bytes_eq word row.0 then Some row.1 else row_named rows word

-- the way that a word names
abbrev pub way_named : List ℕ → Option Way
way_named word = if bytes_eq word (codes "up") then Some Up else if bytes_eq word (codes "down") then Some Down
    else None

-- the position that a word names
abbrev pub position_named : List ℕ → Option Position
position_named word =
    if bytes_eq word (codes "normal") then Some Normal
    else if bytes_eq word (codes "line_clear") then Some LineClear
    else if bytes_eq word (codes "train_on_line") then Some TrainOnLine
    else None

-- the number of the code, if a word spells one of the table
abbrev pub code_found : List (List ℕ) → Option (List ℕ) → Option ℕ
code_found table None = None
code_found table (Some code) = code_number table code

-- the number of the code that a word spells, where it is of the plan's code table
abbrev pub code_named : PlanFields → List ℕ → Option ℕ
code_named plan word = code_found plan.codes (code_of word)

-- the place of box b with this name; places are numbered from 0
abbrev pub place_named : PlanFields → ℕ → List ℕ → Option ℕ
place_named plan b word = position (bytes_eq word) (box_at plan.boxes b).places

-- the train with this name; trains are numbered from 1
abbrev pub train_named : PlanFields → List ℕ → Option ℕ
train_named plan word = option_map (λ i. i + 1) (position (bytes_eq word) (names_of_trains plan.trains))
