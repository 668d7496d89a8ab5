-- What refuses a call at its word, by the number that the word reads.
use Rattle.std.specs.Prelude.{◌≡◌, ℕ, ◌+◌, ◌==◌, Bool, true, false, if◌then◌else◌, Option, Some, None, IsSome}
use Rattle.std.specs.Prelude.{List}
use Rattle.block_words.specs.Bells.{bell_code, bell_count}
use Rattle.block_words.specs.Instruments.{block_position, block_spent, block_turns}
use Rattle.block_words.specs.Sections.{lane}
use Rattle.block_words.specs.declared.Position.{Position}
use Rattle.block_words.specs.declared.Way.{Way}
use Rattle.line_plan.specs.Frames.{BoxFields}
use Rattle.line_plan.specs.Plans.{PlanFields}
use Rattle.line_law.specs.declared.call.Act.{Act}
use Rattle.line_law.specs.declared.call.Act.TheVariants.{Ring, Hear, AwaitBell, AwaitBlock, Pull, Pass, Overrun}
use Rattle.line_law.specs.declared.call.Act.TheVariants.{AwaitTrain, Berth, BerthPart, ClearPortion}
use Rattle.line_law.specs.declared.call.Call.{Call}
use Rattle.line_law.specs.declared.call.Entry.{Entry}
use Rattle.line_law.specs.declared.call.Reply.{Reply}
use Rattle.line_law.specs.declared.call.Reply.TheVariants.{BellBusy, Silent, BellNotYet, BlockNotYet, HeldByInstrument}
use Rattle.line_law.specs.declared.call.Reply.TheVariants.{SectionFull, TrainNotYet, NoTrainAt}
use Rattle.line_law.specs.declared.state.Block.{Block}
use Rattle.line_law.specs.declared.state.BoxState.{BoxState}
use Rattle.line_law.specs.Arrivals.{next_number}
use Rattle.line_law.specs.History.{IsLegal}
use Rattle.line_law.specs.Instruments.{same_position}
use Rattle.line_law.specs.Law.{box_plan_of, link_of}
use Rattle.line_law.specs.Levers.{is_unspent_clear}
use Rattle.line_law.specs.Links.{way_of}
use Rattle.line_law.specs.Ways.{of_way}
use Rattle.word_laws.specs.WordNumbers.{Word, number_after}
use Rattle.instrument_rule.specs.Calls.{here_at}

-- ---- what a word holds

-- the code that stands unheard on a bell
abbrev pub unheard_in : ℕ → Option ℕ
unheard_in word = if bell_code word == 0 then None else Some (bell_code word)

-- an instrument
abbrev pub block_of : ℕ → Block
block_of word = record { turns = block_turns word; position = block_position word; spent = block_spent word }

-- ---- what it refuses

-- a ring, where a code stands unheard
abbrev pub ring_refusal : ℕ → Option ℕ → Option Reply
ring_refusal k None = None
ring_refusal k (Some code) = Some (BellBusy code k)

-- hearing, where none does
abbrev pub hear_refusal : ℕ → Option ℕ → Option Reply
hear_refusal k None = Some (Silent k)
hear_refusal k (Some code) = None

-- an await of a code, where another code or none stands unheard
abbrev pub await_bell_refusal : ℕ → ℕ → Option ℕ → Option Reply
await_bell_refusal code k None = Some (BellNotYet None k)
await_bell_refusal code k (Some unheard) = if unheard == code then None else Some (BellNotYet (Some unheard) k)

-- an await of a position, where the instrument shows another
abbrev pub await_block_refusal : Position → Block → Option Reply
await_block_refusal position block =
    if same_position block.position position then None else Some (BlockNotYet block.position block.turns)

-- a starter's pull, where its instrument isn't at Line Clear unspent
abbrev pub starter_refusal : Way → Block → Option Reply
starter_refusal way block =
    if is_unspent_clear block then None
    else Some (HeldByInstrument way block.position block.spent block.turns)

-- train k at a starter, where its lane is taken
abbrev pub enter_refusal : ℕ → ℕ → Option Reply
enter_refusal k word = if lane word k == 0 then None else Some (SectionFull k)

-- an await of train j, where its lane is empty
abbrev pub await_train_refusal : ℕ → ℕ → Option Reply
await_train_refusal j word = if lane word j == 0 then Some (TrainNotYet j) else None

-- the arrival of train j, whole, in part or of its portion, where its lane is empty
abbrev pub arrival_refusal : ℕ → ℕ → Option Reply
arrival_refusal j word = if lane word j == 0 then Some (NoTrainAt j) else None

-- what a word that reads so refuses a call with, which no test of its box refuses
abbrev pub word_refusal : BoxFields → Act → BoxState → ℕ → Option Reply
word_refusal box_plan (Ring side code) here word = ring_refusal (bell_count word) (unheard_in word)
word_refusal box_plan (Hear side) here word = hear_refusal (bell_count word) (unheard_in word)
word_refusal box_plan (AwaitBell side code) here word = await_bell_refusal code (bell_count word) (unheard_in word)
word_refusal box_plan (AwaitBlock way position) here word = await_block_refusal position (block_of word)
word_refusal box_plan (Pull lever) here word = starter_refusal (way_of (link_of box_plan (Pull lever))) (block_of word)
word_refusal box_plan (Pass lever) here word =
    enter_refusal (of_way here.sent (way_of (link_of box_plan (Pass lever))) + 1) word
word_refusal box_plan (Overrun lever) here word =
    enter_refusal (of_way here.sent (way_of (link_of box_plan (Overrun lever))) + 1) word
word_refusal box_plan (AwaitTrain way) here word = await_train_refusal (next_number here way) word
word_refusal box_plan (Berth way) here word = arrival_refusal (next_number here way) word
word_refusal box_plan (BerthPart way) here word = arrival_refusal (next_number here way) word
word_refusal box_plan (ClearPortion way) here word = arrival_refusal (next_number here way) word
word_refusal box_plan act here word = None

-- ---- the reply

-- a refusal that a word gives
abbrev pub is_of_word : Reply → Bool
is_of_word (BellBusy code k) = true
is_of_word (Silent k) = true
is_of_word (BellNotYet shown k) = true
is_of_word (BlockNotYet shown v) = true
is_of_word (HeldByInstrument way shown spent v) = true
is_of_word (SectionFull k) = true
is_of_word (TrainNotYet j) = true
is_of_word (NoTrainAt j) = true
is_of_word reply = false

-- after this legal history the word refuses a call of box b
abbrev pub IsRefusedAfter : PlanFields → ℕ → Call → Word → List Entry → Type 0
IsRefusedAfter plan b call word log =
    IsLegal plan log
    × IsSome (word_refusal (box_plan_of plan b) call.act (here_at plan log b call) (number_after plan log word))

-- the reply is this refusal; and where there is none, it is no refusal of a word
abbrev pub IsRefusedBy : Option Reply → Reply → Type 0
IsRefusedBy None reply = is_of_word reply ≡ false
IsRefusedBy (Some refusal) reply = reply ≡ refusal
