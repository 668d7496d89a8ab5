-- What the words behind a moment say that a signalman does.
use Rattle.std.specs.Prelude.{ℕ, List, [], ◌∷◌, length, Option, Some, None, Result, Ok, Err, if◌then◌else◌, codes}
use Rattle.std.specs.Prelude.{slice_get, decimal}
use Rattle.std.specs.List.{join_with_byte}
use Rattle.bell_codes.specs.Reading.{code_of}
use Rattle.bell_codes.specs.Table.{code_number}
use Rattle.block_words.specs.declared.Position.{Position}
use Rattle.block_words.specs.declared.Way.{Way}
use Rattle.rail_text.specs.Gives.{◌>>=◌}
use Rattle.rail_text.specs.Words.{number_in}
use Rattle.rail_text.specs.declared.cause.Cause.{Cause}
use Rattle.rail_text.specs.declared.cause.Cause.TheVariants as causes
use Rattle.locking_table.specs.Places.{most_levers}
use Rattle.line_plan.specs.Plans.{PlanFields}
use Rattle.line_plan.specs.Ways.{comes_in, way_word}
use Rattle.line_law.specs.declared.call.Act.{Act}
use Rattle.line_law.specs.declared.call.Act.TheVariants as acts
use Rattle.line_law.specs.Known.{knows_arm, knows_berth, knows_lever, knows_outgoing, knows_side, knows_train}
use Rattle.script_text.specs.declared.reading_acts.ActWord.{ActWord}
use Rattle.script_text.specs.declared.reading_acts.ActWord.TheVariants as names
use Rattle.script_text.specs.declared.reading_acts.LineWord.{LineWord}
use Rattle.script_text.specs.declared.reading_acts.LineWord.TheVariants as lines
use Rattle.script_text.specs.Names.{position_text, code_no_text, train_text, row_named, way_named, position_named}
use Rattle.script_text.specs.Names.{train_named}

-- ---- single words

-- what a fixed word names, or an unknown word
abbrev pub fixed : {A : Type 0} → Option A → Result A Cause
fixed None = Err causes.UnknownWord
fixed (Some x) = Ok x

-- a way on whose side box b has a neighbour
unfoldable pub side_in : PlanFields → ℕ → List ℕ → Result Way Cause
side_in plan b word = do
  way ← fixed (way_named word)
  if knows_side plan b way then Ok way else Err causes.NoLine

-- a number of the code table, if the code has one
abbrev pub numbered : Option ℕ → Result ℕ Cause
numbered None = Err causes.UnknownCode
numbered (Some number) = Ok number

-- the number of a code that a word spells, if it spells one
abbrev pub coded : List (List ℕ) → Option (List ℕ) → Result ℕ Cause
coded table None = Err causes.BadCode
coded table (Some code) = numbered (code_number table code)

-- the number of a code of the plan's code table
unfoldable pub code_in : PlanFields → List ℕ → Result ℕ Cause
code_in plan word = coded plan.codes (code_of word)

-- the line of a way comes into box b from a neighbour, and has a berth there
abbrev pub with_berth : PlanFields → ℕ → Way → Result Way Cause
with_berth plan b way =
    if comes_in (length plan.boxes) b way then (if knows_berth plan b way then Ok way else Err causes.NoBerth)
    else Err causes.NoLine

-- a lever of the frame of box b
unfoldable pub lever_in : PlanFields → ℕ → List ℕ → Result ℕ Cause
lever_in plan b word = do
  lever ← number_in 1 most_levers word
  if knows_lever plan b lever then Ok lever else Err causes.UnknownLever

-- a lever of the frame of box b that works a signal or starter
unfoldable pub arm_in : PlanFields → ℕ → List ℕ → Result ℕ Cause
arm_in plan b word = do
  lever ← lever_in plan b word
  if knows_arm plan b lever then Ok lever else Err causes.NoArm

-- a train that is there, if it is brought at box b
abbrev pub own_train : PlanFields → ℕ → Option ℕ → Result ℕ Cause
own_train plan b None = Err causes.UnknownName
own_train plan b (Some train) = if knows_train plan b train then Ok train else Err causes.OtherBox

-- a train that is brought at box b
unfoldable pub train_in : PlanFields → ℕ → List ℕ → Result ℕ Cause
train_in plan b word = own_train plan b (train_named plan word)

-- ---- the words of a line behind the moment and the call's word

-- the first two words, where there is no third
abbrev pub pair_of_words : Option (List ℕ) → Option (List ℕ) → Option (List ℕ) → Result (List ℕ × List ℕ) Cause
pair_of_words (Some first) (Some second) None = Ok (first, second)
pair_of_words (Some first) (Some second) (Some more) = Err causes.WordCount
pair_of_words (Some first) None more = Err causes.WordCount
pair_of_words None second more = Err causes.WordCount

-- the two words behind them, where there are exactly two
abbrev pub two_words : List (List ℕ) → Result (List ℕ × List ℕ) Cause
two_words words = pair_of_words (slice_get words 2) (slice_get words 3) (slice_get words 4)

-- the first word, where there is no second
abbrev pub single_word : Option (List ℕ) → Option (List ℕ) → Result (List ℕ) Cause
single_word (Some only) None = Ok only
single_word (Some only) (Some more) = Err causes.WordCount
single_word None more = Err causes.WordCount

-- the one word behind them, where there is exactly one
abbrev pub third_word : List (List ℕ) → Result (List ℕ) Cause
third_word words = single_word (slice_get words 2) (slice_get words 3)

-- SIDE CODE: the side with its neighbour is tested before the code
unfoldable pub side_and_code : PlanFields → ℕ → List (List ℕ) → Result (Way × ℕ) Cause
side_and_code plan b words = do
  both ← two_words words
  side ← side_in plan b both.0
  number ← code_in plan both.1
  Ok (side, number)

-- WAY POSITION: the forms of both words
unfoldable pub way_and_position : List (List ℕ) → Result (Way × Position) Cause
way_and_position words = do
  both ← two_words words
  way ← fixed (way_named both.0)
  position ← fixed (position_named both.1)
  Ok (way, position)

-- WAY POSITION of a berth's line
unfoldable pub berth_and_position : PlanFields → ℕ → List (List ℕ) → Result (Way × Position) Cause
berth_and_position plan b words = do
  both ← way_and_position words
  way ← with_berth plan b both.0
  Ok (way, both.1)

-- WAY POSITION of an outgoing line
unfoldable pub outgoing_and_position : PlanFields → ℕ → List (List ℕ) → Result (Way × Position) Cause
outgoing_and_position plan b words = do
  both ← way_and_position words
  if knows_outgoing plan b both.0 then Ok (both.0, both.1) else Err causes.NoLine

-- SIDE
unfoldable pub one_side : PlanFields → ℕ → List (List ℕ) → Result Way Cause
one_side plan b words = third_word words >>= side_in plan b

-- WAY of a berth's line
unfoldable pub one_berth : PlanFields → ℕ → List (List ℕ) → Result Way Cause
one_berth plan b words = do
  word ← third_word words
  way ← fixed (way_named word)
  with_berth plan b way

-- LEVER
unfoldable pub one_lever : PlanFields → ℕ → List (List ℕ) → Result ℕ Cause
one_lever plan b words = third_word words >>= lever_in plan b

-- LEVER with an arm
unfoldable pub one_arm : PlanFields → ℕ → List (List ℕ) → Result ℕ Cause
one_arm plan b words = third_word words >>= arm_in plan b

-- TRAIN
unfoldable pub one_train : PlanFields → ℕ → List (List ℕ) → Result ℕ Cause
one_train plan b words = third_word words >>= train_in plan b

-- ---- calls by their words

-- the words of all calls
abbrev pub act_rows : List (List ℕ × ActWord)
act_rows =
    (codes "ring", names.Ring)
    ∷ (codes "hear", names.Hear)
    ∷ (codes "await_bell", names.AwaitBell)
    ∷ (codes "turn", names.Turn)
    ∷ (codes "await_block", names.AwaitBlock)
    ∷ (codes "pull", names.Pull)
    ∷ (codes "put", names.Put)
    ∷ (codes "pass", names.Pass)
    ∷ (codes "overrun", names.Overrun)
    ∷ (codes "bring", names.Bring)
    ∷ (codes "await_train", names.Line lines.AwaitTrain)
    ∷ (codes "berth", names.Line lines.Berth)
    ∷ (codes "berth_part", names.Line lines.BerthPart)
    ∷ (codes "clear_portion", names.Line lines.ClearPortion)
    ∷ (codes "wind", names.Line lines.Wind)
    ∷ (codes "release", names.Line lines.Release)
    ∷ []

-- a call of an incoming line
abbrev pub way_act : LineWord → Way → Act
way_act lines.AwaitTrain way = acts.AwaitTrain way
way_act lines.Berth way = acts.Berth way
way_act lines.BerthPart way = acts.BerthPart way
way_act lines.ClearPortion way = acts.ClearPortion way
way_act lines.Wind way = acts.Wind way
way_act lines.Release way = acts.Release way

-- what a line with such a call says behind its word
abbrev pub worded_act : PlanFields → ℕ → List (List ℕ) → ActWord → Result Act Cause
worded_act plan b words names.Ring = side_and_code plan b words >>= (λ both. Ok (acts.Ring both.0 both.1))
worded_act plan b words names.Hear = one_side plan b words >>= (λ side. Ok (acts.Hear side))
worded_act plan b words names.AwaitBell = side_and_code plan b words >>= (λ both. Ok (acts.AwaitBell both.0 both.1))
worded_act plan b words names.Turn = berth_and_position plan b words >>= (λ both. Ok (acts.Turn both.0 both.1))
worded_act plan b words names.AwaitBlock =
    outgoing_and_position plan b words >>= (λ both. Ok (acts.AwaitBlock both.0 both.1))
worded_act plan b words names.Pull = one_lever plan b words >>= (λ lever. Ok (acts.Pull lever))
worded_act plan b words names.Put = one_lever plan b words >>= (λ lever. Ok (acts.Put lever))
worded_act plan b words names.Pass = one_arm plan b words >>= (λ lever. Ok (acts.Pass lever))
worded_act plan b words names.Overrun = one_arm plan b words >>= (λ lever. Ok (acts.Overrun lever))
worded_act plan b words names.Bring = one_train plan b words >>= (λ train. Ok (acts.Bring train))
worded_act plan b words (names.Line line) = one_berth plan b words >>= (λ way. Ok (way_act line way))

-- the same, where the word names a call
abbrev pub act_worded : PlanFields → ℕ → List (List ℕ) → Option ActWord → Result Act Cause
act_worded plan b words None = Err causes.UnknownWord
act_worded plan b words (Some word) = worded_act plan b words word

-- what the call's word, if there is one, says with the words of the line
abbrev pub act_named : PlanFields → ℕ → List (List ℕ) → Option (List ℕ) → Result Act Cause
act_named plan b words None = Err causes.UnknownWord
act_named plan b words (Some word) = act_worded plan b words (row_named act_rows word)

-- what a line says behind its moment: the call's word, and the words behind it
unfoldable pub act_of : PlanFields → ℕ → List (List ℕ) → Result Act Cause
act_of plan b words = act_named plan b words (slice_get words 1)

-- ---- as it is printed

-- the words of an act
abbrev pub act_words : PlanFields → Act → List (List ℕ)
act_words plan (acts.Ring side code) = codes "ring" ∷ way_word side ∷ code_no_text plan.codes code ∷ []
act_words plan (acts.Hear side) = codes "hear" ∷ way_word side ∷ []
act_words plan (acts.AwaitBell side code) = codes "await_bell" ∷ way_word side ∷ code_no_text plan.codes code ∷ []
act_words plan (acts.Turn way position) = codes "turn" ∷ way_word way ∷ position_text position ∷ []
act_words plan (acts.AwaitBlock way position) = codes "await_block" ∷ way_word way ∷ position_text position ∷ []
act_words plan (acts.Pull lever) = codes "pull" ∷ decimal lever ∷ []
act_words plan (acts.Put lever) = codes "put" ∷ decimal lever ∷ []
act_words plan (acts.Bring train) = codes "bring" ∷ train_text plan train ∷ []
act_words plan (acts.Pass lever) = codes "pass" ∷ decimal lever ∷ []
act_words plan (acts.Overrun lever) = codes "overrun" ∷ decimal lever ∷ []
act_words plan (acts.AwaitTrain way) = codes "await_train" ∷ way_word way ∷ []
act_words plan (acts.Berth way) = codes "berth" ∷ way_word way ∷ []
act_words plan (acts.BerthPart way) = codes "berth_part" ∷ way_word way ∷ []
act_words plan (acts.ClearPortion way) = codes "clear_portion" ∷ way_word way ∷ []
act_words plan (acts.Wind way) = codes "wind" ∷ way_word way ∷ []
act_words plan (acts.Release way) = codes "release" ∷ way_word way ∷ []

-- an act as it is printed: its words, with one space between each two
abbrev pub act_text : PlanFields → Act → List ℕ
act_text plan act = join_with_byte 32 (act_words plan act)
