-- Which operation a call may take, and on which word.
use Rattle.std.specs.Prelude.{◌≡◌, ◌≢◌, ℕ, ◌<◌, ◌⊎◌, List, [], length, Option, Some}
use Rattle.block_words.specs.Bells.{bell_code}
use Rattle.block_words.specs.Ways.{opposite}
use Rattle.block_words.specs.declared.Way.{Way}
use Rattle.block_words.specs.declared.WordOp.{WordOp}
use Rattle.block_words.specs.declared.WordOp.TheVariants as ops
use Rattle.line_plan.specs.Frames.{BoxFields}
use Rattle.line_plan.specs.Plans.{PlanFields}
use Rattle.line_law.specs.declared.call.Act.{Act}
use Rattle.line_law.specs.declared.call.Act.TheVariants.{AwaitBell, AwaitBlock, Pass, Overrun, AwaitTrain}
use Rattle.line_law.specs.declared.call.Call.{Call}
use Rattle.line_law.specs.declared.call.Entry.{Entry}
use Rattle.line_law.specs.declared.link.Link.{Link}
use Rattle.line_law.specs.declared.link.Link.TheVariants.{Out, In}
use Rattle.line_law.specs.declared.state.BoxState.{BoxState}
use Rattle.line_law.specs.History.{part_of, state_of}
use Rattle.line_law.specs.Law.{MayCall, at_moment, link_of, box_plan_of}
use Rattle.line_law.specs.Links.{pair_no, way_of}
use Rattle.line_law.specs.States.{box_at}
use Rattle.word_laws.specs.Operations.{AtFirst, AtSecond, first_op, second_op}
use Rattle.word_laws.specs.WordNumbers.{BellOf, BlockOf, PlainLineOf, TallyOf, Word, number_after}
use Rattle.instrument_rule.specs.declared.view.View.{View}
use Rattle.instrument_rule.specs.Rule.{most_entries}
use Rattle.instrument_rule.specs.Views.{caller_of}

-- ---- the word of an operation

-- a section is looked at on the outgoing line for a train that would leave, and else on the incoming one
abbrev pub look_link : Act → Way → Link
look_link (Pass lever) way = Out way
look_link (Overrun lever) way = Out way
look_link act way = In way

-- the bell of box b on one of its lines
abbrev pub bell_on : ℕ → Link → Word
bell_on b link = BellOf (pair_no b link) (way_of link)

-- its instrument there
abbrev pub block_on : ℕ → Link → Word
block_on b link = BlockOf (pair_no b link) (way_of link)

-- its plain line there
abbrev pub line_on : ℕ → Link → Word
line_on b link = PlainLineOf (pair_no b link) (way_of link)

-- the word on which box b does an operation for a call
abbrev pub op_word : ℕ → Act → WordOp → Word
op_word b act ops.Local = TallyOf b
op_word b act (ops.Ring side expect new) = bell_on b (Out side)
op_word b act (ops.Hear side) = bell_on b (In (opposite side))
op_word b act (ops.LookBell side) = bell_on b (In (opposite side))
op_word b act (ops.Turn way new) = block_on b (In way)
op_word b act (ops.Pull way) = block_on b (Out way)
op_word b act (ops.LookBlock way) = block_on b (Out way)
op_word b act (ops.LookSection way) = line_on b (look_link act way)
op_word b act (ops.Enter way bits) = line_on b (Out way)
op_word b act (ops.TakeOut way mask) = line_on b (In way)

-- ---- looks

-- a look of an await is counted
abbrev pub look_count : Act → ℕ
look_count (AwaitBell side code) = 1
look_count (AwaitBlock way position) = 1
look_count (AwaitTrain way) = 1
look_count act = 0

-- how many looks an operation adds
abbrev pub looks_by : Act → WordOp → ℕ
looks_by act (ops.LookBell side) = look_count act
looks_by act (ops.LookBlock way) = look_count act
looks_by act (ops.LookSection way) = look_count act
looks_by act op = 0

-- a look that decides nothing has found room for a train that would leave
abbrev pub room_seen : BoxFields → Act → Option Way → Option Way
room_seen box_plan (Pass lever) room = Some (way_of (link_of box_plan (Pass lever)))
room_seen box_plan (Overrun lever) room = Some (way_of (link_of box_plan (Overrun lever)))
room_seen box_plan act room = room

-- ---- which operation a call may take

-- box b after what was seen, at the moment of its call
abbrev pub here_at : PlanFields → List Entry → ℕ → Call → BoxState
here_at plan seen b call = at_moment (box_at (state_of plan seen) b) call.moment

-- a second operation may come where a look before it saw to that: the awaited code stood on the bell, or there was room
abbrev pub WasSeen : PlanFields → ℕ → View → Act → Type 0
WasSeen plan b v (AwaitBell side code) =
    bell_code (number_after plan v.seen (bell_on b (In (opposite side)))) ≡ code
WasSeen plan b v (Pass lever) = v.room ≡ Some (way_of (link_of (box_plan_of plan b) (Pass lever)))
WasSeen plan b v (Overrun lever) = v.room ≡ Some (way_of (link_of (box_plan_of plan b) (Overrun lever)))
WasSeen plan b v act = ⊥

-- the operation is the first that the call takes in the box as its post has seen it, or the second, where that may come
abbrev pub OpFits : PlanFields → ℕ → Call → WordOp → View → Type 0
OpFits plan b call op v =
    (first_op plan (box_plan_of plan b) call.act (here_at plan v.seen b call) ≡ op)
    ⊎ ((second_op plan (box_plan_of plan b) call.act (here_at plan v.seen b call) ≡ Some op)
    × WasSeen plan b v call.act)

-- by the word that it met the law decides the call at this operation, in the box as its post had seen it
abbrev pub DecidedAt : PlanFields → ℕ → Call → WordOp → List Entry → ℕ → Type 0
DecidedAt plan b call op seen word =
    ((first_op plan (box_plan_of plan b) call.act (here_at plan seen b call) ≡ op)
    × AtFirst plan (box_plan_of plan b) call.act (here_at plan seen b call) word)
    ⊎ ((second_op plan (box_plan_of plan b) call.act (here_at plan seen b call) ≡ Some op)
    × AtSecond plan (box_plan_of plan b) call.act (here_at plan seen b call) word)

-- a seat of a line with this plan, between two joins
abbrev pub Sits : PlanFields → View → Type 0
Sits plan v = (v.plan ≡ Some plan) × (v.olds ≡ [])

-- the post holds a box, and the first that it holds may make this call and has room for the entry
pub record MayStep (plan : PlanFields) (call : Call) (v : View) : Type 0 where
  pub holds : v.posts ≢ []
  pub call_may : MayCall plan (state_of plan v.seen) (caller_of v.posts) call
  pub spare : length (part_of (caller_of v.posts) v.seen) < most_entries
