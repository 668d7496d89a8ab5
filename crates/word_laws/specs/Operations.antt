-- The operations of a call on the shared words, and where it is decided at one.
use Rattle.std.specs.Prelude.{ℕ, ◌≡◌, ◌≢◌, ◌<◌, ◌+◌, ◌==◌, nat_lt, Bool, true, false, not, ◌&&◌, ◌||◌}
use Rattle.std.specs.Prelude.{Option, Some, None, IfSome, List, [], ◌∷◌, ◌++◌}
use Rattle.block_words.specs.Bells.{bell_code, bell_word}
use Rattle.block_words.specs.Instruments.{block_position, block_word}
use Rattle.block_words.specs.Operations.{word_after}
use Rattle.block_words.specs.Sections.{lane, lane_bits, lane_mask}
use Rattle.block_words.specs.declared.Way.{Way}
use Rattle.block_words.specs.declared.WordOp.{WordOp}
use Rattle.block_words.specs.declared.WordOp.TheVariants as ops
use Rattle.line_plan.specs.Frames.{BoxFields, signal_of}
use Rattle.line_plan.specs.Plans.{PlanFields}
use Rattle.line_plan.specs.declared.signal.Signal.{Signal}
use Rattle.line_law.specs.declared.call.Act.{Act}
use Rattle.line_law.specs.declared.call.Act.TheVariants.{Ring, Hear, AwaitBell, Turn, AwaitBlock, Pull, Pass, Overrun}
use Rattle.line_law.specs.declared.call.Act.TheVariants.{AwaitTrain, Berth, BerthPart, ClearPortion}
use Rattle.line_law.specs.declared.call.Entry.{Entry}
use Rattle.line_law.specs.declared.state.BoxState.{BoxState}
use Rattle.line_law.specs.declared.state.PairState.{PairState}
use Rattle.line_law.specs.Arrivals.{next_number}
use Rattle.line_law.specs.Decisions.{Decision, on_pair}
use Rattle.word_laws.specs.Footprint.{Kind, Tally, kind_of}
use Rattle.line_law.specs.History.{state_of}
use Rattle.line_law.specs.Instruments.{same_position}
use Rattle.line_law.specs.Law.{at_moment, decide, link_of, box_plan_of}
use Rattle.line_law.specs.Levers.{starter_way}
use Rattle.line_law.specs.Links.{way_of}
use Rattle.line_law.specs.States.{box_at}
use Rattle.line_law.specs.Tracks.{train_on}
use Rattle.line_law.specs.Ways.{of_way}
use Rattle.word_laws.specs.WordNumbers.{IsTrainNo, Word, number_after, number_at, word_of}

-- ---- the table of operations, for a call past what its box refuses

-- the train, or 0 where there is none
abbrev pub train_or_none : Option ℕ → ℕ
train_or_none None = 0
train_or_none (Some train) = train

-- the train at a signal, or 0
abbrev pub train_at_signal : BoxState → Option Signal → ℕ
train_at_signal here None = 0
train_at_signal here (Some signal) = train_or_none (train_on here.places signal.from)

-- a starter's pull marks its instrument as spent; any other is the box's own
abbrev pub pull_op : Option Way → WordOp
pull_op None = ops.Local
pull_op (Some way) = ops.Pull way

-- a train at a starter looks at the section; any other move is the box's own
abbrev pub look_op : Option Way → WordOp
look_op None = ops.Local
look_op (Some way) = ops.LookSection way

-- and then it enters its lane: that of the train after those sent
abbrev pub enter_op : BoxState → ℕ → Option Way → Option WordOp
enter_op here train None = None
enter_op here train (Some way) = Some (ops.Enter way (lane_bits (of_way here.sent way + 1) train))

-- the lane of the train that an incoming line takes next is emptied
abbrev pub take_out_op : BoxState → Way → WordOp
take_out_op here way = ops.TakeOut way (lane_mask ((of_way here.incoming way).taken + 1))

-- the first operation of a call; an await's is repeated, look by look
abbrev pub first_by : BoxFields → Act → BoxState → WordOp
first_by box_plan (Ring side code) here =
    ops.Ring side (bell_word (of_way here.rung side) 0) (bell_word (of_way here.rung side + 1) code)
first_by box_plan (Hear side) here = ops.Hear side
first_by box_plan (AwaitBell side code) here = ops.LookBell side
first_by box_plan (Turn way position) here =
    ops.Turn way (block_word ((of_way here.incoming way).turns + 1) false position)
first_by box_plan (AwaitBlock way position) here = ops.LookBlock way
first_by box_plan (Pull lever) here = pull_op (starter_way (signal_of box_plan lever))
first_by box_plan (Pass lever) here = look_op (starter_way (signal_of box_plan lever))
first_by box_plan (Overrun lever) here = look_op (starter_way (signal_of box_plan lever))
first_by box_plan (AwaitTrain way) here = ops.LookSection way
first_by box_plan (Berth way) here = take_out_op here way
first_by box_plan (BerthPart way) here = ops.LookSection way
first_by box_plan (ClearPortion way) here = take_out_op here way
first_by box_plan act here = ops.Local

-- the second operation, where a call may have one after its looks: a code that was seen is heard, and a train enters
-- the lane that it saw empty
abbrev pub second_by : BoxFields → Act → BoxState → Option WordOp
second_by box_plan (AwaitBell side code) here = Some (ops.Hear side)
second_by box_plan (Pass lever) here =
    enter_op here (train_at_signal here (signal_of box_plan lever)) (starter_way (signal_of box_plan lever))
second_by box_plan (Overrun lever) here =
    enter_op here (train_at_signal here (signal_of box_plan lever)) (starter_way (signal_of box_plan lever))
second_by box_plan act here = None

-- ---- the operations of every call

-- a call that is decided in its box alone is counted on the box's tally, and has no other operation
abbrev pub first_on : Kind → WordOp → WordOp
first_on Tally op = ops.Local
first_on kind op = op

abbrev pub second_on : Kind → Option WordOp → Option WordOp
second_on Tally op = None
second_on kind op = op

-- the first operation of a call of a box in this state
abbrev pub first_op : PlanFields → BoxFields → Act → BoxState → WordOp
first_op plan box_plan act here = first_on (kind_of (decide plan box_plan act here)) (first_by box_plan act here)

-- its second operation, if it may have one
abbrev pub second_op : PlanFields → BoxFields → Act → BoxState → Option WordOp
second_op plan box_plan act here = second_on (kind_of (decide plan box_plan act here)) (second_by box_plan act here)

-- ---- where a call is decided, by the word that the operation meets

-- the lane of the train that a box would send next
abbrev pub next_lane : BoxState → Way → ℕ → ℕ
next_lane here way word = lane word (of_way here.sent way + 1)

-- by the word that its first operation meets a call is decided there: an await of a bell by its last look, where the
-- code isn't there; a train at a starter, where the lane is taken; every other call
abbrev pub FirstDecides : BoxFields → Act → BoxState → ℕ → Type 0
FirstDecides box_plan (AwaitBell side code) here word = bell_code word ≢ code
FirstDecides box_plan (Pass lever) here word = 0 < next_lane here (way_of (link_of box_plan (Pass lever))) word
FirstDecides box_plan (Overrun lever) here word = 0 < next_lane here (way_of (link_of box_plan (Overrun lever))) word
FirstDecides box_plan act here word = Unit {0}

-- by the word that its second operation meets a call is decided there: the word still holds the code, and the lane is
-- still empty
abbrev pub SecondDecides : BoxFields → Act → BoxState → ℕ → Type 0
SecondDecides box_plan (AwaitBell side code) here word = bell_code word ≡ code
SecondDecides box_plan (Pass lever) here word = next_lane here (way_of (link_of box_plan (Pass lever))) word ≡ 0
SecondDecides box_plan (Overrun lever) here word = next_lane here (way_of (link_of box_plan (Overrun lever))) word ≡ 0
SecondDecides box_plan act here word = ⊥

-- a call that is decided in its box alone is decided by its first operation, whatever that meets
abbrev pub FirstOn : Kind → Type 0 → Type 0
FirstOn Tally decides = Unit {0}
FirstOn kind decides = decides

abbrev pub SecondOn : Kind → Type 0 → Type 0
SecondOn Tally decides = ⊥
SecondOn kind decides = decides

-- a call whose first operation meets this word is decided there
abbrev pub AtFirst : PlanFields → BoxFields → Act → BoxState → ℕ → Type 0
AtFirst plan box_plan act here word =
    FirstOn (kind_of (decide plan box_plan act here)) (FirstDecides box_plan act here word)

-- a call whose second operation meets this word is decided there
abbrev pub AtSecond : PlanFields → BoxFields → Act → BoxState → ℕ → Type 0
AtSecond plan box_plan act here word =
    SecondOn (kind_of (decide plan box_plan act here)) (SecondDecides box_plan act here word)

-- ---- the same, as tests of the word

-- A look decides its call by the word that it meets: of an await of a bell the last look, where another code or none is
-- there; of an await of an instrument or a train the look that finds it, and the last; of a train at a starter the look
-- that finds its lane taken; of every other call the one look.
abbrev pub look_decides : BoxFields → Act → BoxState → Bool → ℕ → Bool
look_decides box_plan (AwaitBell side code) here last word = last && not (bell_code word == code)
look_decides box_plan (AwaitBlock way position) here last word = last || same_position (block_position word) position
look_decides box_plan (AwaitTrain way) here last word = last || nat_lt 0 (lane word (next_number here way))
look_decides box_plan (Pass lever) here last word =
    nat_lt 0 (next_lane here (way_of (link_of box_plan (Pass lever))) word)
look_decides box_plan (Overrun lever) here last word =
    nat_lt 0 (next_lane here (way_of (link_of box_plan (Overrun lever))) word)
look_decides box_plan act here last word = true

-- every other operation decides its call, whatever it meets
abbrev pub op_decides : BoxFields → Act → BoxState → WordOp → Bool → ℕ → Bool
op_decides box_plan act here (ops.LookBell side) last word = look_decides box_plan act here last word
op_decides box_plan act here (ops.LookBlock way) last word = look_decides box_plan act here last word
op_decides box_plan act here (ops.LookSection way) last word = look_decides box_plan act here last word
op_decides box_plan act here op last word = true

-- a word satisfies a call that looks, or has the room that a train needs which would leave: of an await of a bell the
-- bell holds the code, of an await of an instrument it shows the position, of an await of a train the lane of the next
-- train has one; of a train at a starter its lane is empty; any other call is satisfied by every word
abbrev pub met_by : BoxFields → Act → BoxState → ℕ → Bool
met_by box_plan (AwaitBell side code) here word = bell_code word == code
met_by box_plan (AwaitBlock way position) here word = same_position (block_position word) position
met_by box_plan (AwaitTrain way) here word = nat_lt 0 (lane word (next_number here way))
met_by box_plan (Pass lever) here word = next_lane here (way_of (link_of box_plan (Pass lever))) word == 0
met_by box_plan (Overrun lever) here word = next_lane here (way_of (link_of box_plan (Overrun lever))) word == 0
met_by box_plan act here word = true

-- ---- what an operation makes of the word

-- the operation makes of the word of this pair the word of the pair that the decision leaves
abbrev pub MakesAt : Decision → Way → PairState → WordOp → Type 0
MakesAt d way pair op = word_after op (number_at (kind_of d) way pair)
    ≡ number_at (kind_of d) way (on_pair way d pair).word

-- the same of a call
abbrev pub Makes : PlanFields → BoxFields → Act → BoxState → PairState → WordOp → Type 0
Makes plan box_plan act here pair op = MakesAt (decide plan box_plan act here) (way_of (link_of box_plan act)) pair op

-- the word that a call meets
abbrev pub word_met : PlanFields → BoxFields → Act → BoxState → PairState → ℕ
word_met plan box_plan act here pair =
    number_at (kind_of (decide plan box_plan act here)) (way_of (link_of box_plan act)) pair

-- each train at a place of the box fits a lane
abbrev pub HasTrainNos : BoxState → Type 0
HasTrainNos here = (place : ℕ) → IfSome (train_on here.places place) IsTrainNo

-- a call is decided on a word
abbrev pub IsOnWord : Kind → Type 0
IsOnWord Tally = ⊥
IsOnWord kind = Unit {0}

-- where a call is decided at an operation, the new word is the number of what the law makes of the pair whose number
-- the old word was
pub record FollowsLaw (plan : PlanFields) (box_plan : BoxFields) (act : Act) (here : BoxState) (pair : PairState)
    : Type 0 where
  pub first : AtFirst plan box_plan act here (word_met plan box_plan act here pair)
      → Makes plan box_plan act here pair (first_op plan box_plan act here)
  pub second : (op : WordOp) → second_op plan box_plan act here ≡ Some op
      → AtSecond plan box_plan act here (word_met plan box_plan act here pair) → Makes plan box_plan act here pair op

-- ---- along a history

-- the box of an entry that follows a history, at the moment of its call
abbrev pub caller : PlanFields → List Entry → Entry → BoxState
caller plan es e = at_moment (box_at (state_of plan es) e.box_no) e.call.moment

-- An entry that follows a history leaves every shared word but the one on which its call was decided. Where the call
-- was decided at an operation, the operation makes of that word's number after the history the number after the entry.
pub record MovesWord (plan : PlanFields) (es : List Entry) (e : Entry) : Type 0 where
  pub others : (w : Word) → w ≢ word_of plan e → number_after plan (es ++ e ∷ []) w ≡ number_after plan es w
  pub first : AtFirst plan (box_plan_of plan e.box_no) e.call.act (caller plan es e)
      (number_after plan es (word_of plan e))
      → word_after (first_op plan (box_plan_of plan e.box_no) e.call.act (caller plan es e))
      (number_after plan es (word_of plan e)) ≡ number_after plan (es ++ e ∷ []) (word_of plan e)
  pub second : (op : WordOp) → second_op plan (box_plan_of plan e.box_no) e.call.act (caller plan es e) ≡ Some op
      → AtSecond plan (box_plan_of plan e.box_no) e.call.act (caller plan es e) (number_after plan es (word_of plan e))
      → word_after op (number_after plan es (word_of plan e)) ≡ number_after plan (es ++ e ∷ []) (word_of plan e)
