-- What a reply tells of the word on which its call was decided: which kind of word it is, the word's count before and
-- after the call, and at which end of the word it is told.
use Rattle.std.specs.Prelude.{◌≡◌, ℕ, ◌-◌, ◌<◌, ◌≤◌}
use Rattle.block_words.specs.declared.Way.{Way}
use Rattle.line_plan.specs.Plans.{PlanFields}
use Rattle.line_law.specs.declared.call.Call.{Call}
use Rattle.line_law.specs.declared.call.Reply.{Reply}
use Rattle.line_law.specs.declared.call.Reply.TheVariants.{Rung, BellBusy, Heard, Silent, BellNotYet, Turned, Seen}
use Rattle.line_law.specs.declared.call.Reply.TheVariants.{BlockNotYet, PulledUnder, HeldByInstrument, Entered}
use Rattle.line_law.specs.declared.call.Reply.TheVariants.{SectionFull, Approaching, TrainNotYet, Berthed, PartBerthed}
use Rattle.line_law.specs.declared.call.Reply.TheVariants.{NoTrainAt, Cleared}
use Rattle.line_law.specs.declared.link.Link.{Link}
use Rattle.line_law.specs.declared.link.Link.TheVariants.{Out, In}
use Rattle.line_law.specs.declared.state.BoxState.{BoxState}
use Rattle.line_law.specs.declared.state.PairState.{PairState}
use Rattle.word_laws.specs.Footprint.{Kind, Tally, BellWord, BlockWord, PlainLineWord, kind_at}
use Rattle.line_law.specs.Law.{link_of, pair_of, box_plan_of, step}
use Rattle.line_law.specs.Links.{way_of}
use Rattle.line_law.specs.States.{LineState, box_at, pair_at}
use Rattle.line_law.specs.Ways.{of_way}

-- the kind of word on which a call with this reply was decided: its box's tally, unless the reply tells of a bell, an
-- instrument or a plain line
abbrev pub kind_told : Reply → Kind
kind_told (Rung k) = BellWord
kind_told (BellBusy code k) = BellWord
kind_told (Heard code k) = BellWord
kind_told (Silent k) = BellWord
kind_told (BellNotYet shown k) = BellWord
kind_told (Turned v) = BlockWord
kind_told (Seen v) = BlockWord
kind_told (BlockNotYet shown v) = BlockWord
kind_told (PulledUnder v) = BlockWord
kind_told (HeldByInstrument way shown spent v) = BlockWord
kind_told (Entered train k) = PlainLineWord
kind_told (SectionFull k) = PlainLineWord
kind_told (Approaching train j) = PlainLineWord
kind_told (TrainNotYet j) = PlainLineWord
kind_told (Berthed train j) = PlainLineWord
kind_told (PartBerthed train j) = PlainLineWord
kind_told (NoTrainAt j) = PlainLineWord
kind_told (Cleared train j) = PlainLineWord
kind_told reply = Tally

-- the count that goes with a word, as the box on this line meets it: codes rung on a bell, turns of an instrument, and
-- of a plain line the trains sent by its rear box or taken by its box in advance
abbrev pub count_met : Kind → Link → BoxState → PairState → ℕ
count_met Tally link here pair = 0
count_met BellWord link here pair = (of_way pair.bells (way_of link)).count
count_met BlockWord link here pair = (of_way pair.blocks (way_of link)).turns
count_met PlainLineWord (Out way) here pair = of_way here.sent way
count_met PlainLineWord (In way) here pair = (of_way here.incoming way).taken

-- the count before a call with this reply
abbrev pub count_before : Reply → ℕ
count_before (Rung k) = k - 1
count_before (BellBusy code k) = k
count_before (Heard code k) = k
count_before (Silent k) = k
count_before (BellNotYet shown k) = k
count_before (Turned v) = v - 1
count_before (Seen v) = v
count_before (BlockNotYet shown v) = v
count_before (PulledUnder v) = v
count_before (HeldByInstrument way shown spent v) = v
count_before (Entered train k) = k - 1
count_before (SectionFull k) = k - 1
count_before (Approaching train j) = j - 1
count_before (TrainNotYet j) = j - 1
count_before (Berthed train j) = j - 1
count_before (PartBerthed train j) = j - 1
count_before (NoTrainAt j) = j - 1
count_before (Cleared train j) = j - 1
count_before reply = 0

-- the count after it: one more where a code was rung, an instrument turned, or a train sent or taken
abbrev pub count_after : Reply → ℕ
count_after (Rung k) = k
count_after (BellBusy code k) = k
count_after (Heard code k) = k
count_after (Silent k) = k
count_after (BellNotYet shown k) = k
count_after (Turned v) = v
count_after (Seen v) = v
count_after (BlockNotYet shown v) = v
count_after (PulledUnder v) = v
count_after (HeldByInstrument way shown spent v) = v
count_after (Entered train k) = k
count_after (SectionFull k) = k - 1
count_after (Approaching train j) = j - 1
count_after (TrainNotYet j) = j - 1
count_after (Berthed train j) = j
count_after (PartBerthed train j) = j - 1
count_after (NoTrainAt j) = j - 1
count_after (Cleared train j) = j
count_after reply = 0

-- the count that goes with the word on which a call of box b is decided in a state, as it is in another state
abbrev pub count_at : PlanFields → LineState → ℕ → Call → LineState → ℕ
count_at plan state b call now =
    count_met (kind_at plan state b call) (link_of (box_plan_of plan b) call.act) (box_at now b)
    (pair_at now (pair_of plan b call))

-- a call's reply tells the count that goes with its word: as it was, and as it is
pub record TellsCount (plan : PlanFields) (state : LineState) (b : ℕ) (call : Call) : Type 0 where
  pub before : count_before (step plan state b call).reply ≡ count_at plan state b call state
  pub after : count_after (step plan state b call).reply ≡ count_at plan state b call (step plan state b call).after

-- ---- the ends of a word

-- a reply is told at the rear end of a word, or in the box alone; trains are numbered from 1
abbrev pub IsOutReply : Reply → Type 0
IsOutReply (Heard code k) = ⊥
IsOutReply (Silent k) = ⊥
IsOutReply (BellNotYet shown k) = ⊥
IsOutReply (Turned v) = ⊥
IsOutReply (Approaching train j) = ⊥
IsOutReply (TrainNotYet j) = ⊥
IsOutReply (Berthed train j) = ⊥
IsOutReply (PartBerthed train j) = ⊥
IsOutReply (NoTrainAt j) = ⊥
IsOutReply (Cleared train j) = ⊥
IsOutReply (Entered train k) = 0 < k
IsOutReply reply = Unit {0}

-- a reply is told at the end of a word in advance, or in the box alone; trains are numbered from 1
abbrev pub IsInReply : Reply → Type 0
IsInReply (Rung k) = ⊥
IsInReply (BellBusy code k) = ⊥
IsInReply (Seen v) = ⊥
IsInReply (BlockNotYet shown v) = ⊥
IsInReply (PulledUnder v) = ⊥
IsInReply (HeldByInstrument way shown spent v) = ⊥
IsInReply (Entered train k) = ⊥
IsInReply (SectionFull k) = ⊥
IsInReply (TrainNotYet j) = 0 < j
IsInReply (NoTrainAt j) = 0 < j
IsInReply (Berthed train j) = 0 < j
IsInReply (Cleared train j) = 0 < j
IsInReply reply = Unit {0}

-- a reply is told at the end of a line
abbrev pub IsReplyAt : Link → Reply → Type 0
IsReplyAt (Out way) reply = IsOutReply reply
IsReplyAt (In way) reply = IsInReply reply

-- ---- what never falls

-- from one state of a line to a later one no count of codes rung, of turns, of trains sent or of trains taken falls
pub record NeverFalls (state later : LineState) : Type 0 where
  pub rung : (p : ℕ) (way : Way)
      → (of_way (pair_at state p).bells way).count ≤ (of_way (pair_at later p).bells way).count
  pub turns : (p : ℕ) (way : Way)
      → (of_way (pair_at state p).blocks way).turns ≤ (of_way (pair_at later p).blocks way).turns
  pub sent : (b : ℕ) (way : Way) → of_way (box_at state b).sent way ≤ of_way (box_at later b).sent way
  pub taken : (b : ℕ) (way : Way)
      → (of_way (box_at state b).incoming way).taken ≤ (of_way (box_at later b).incoming way).taken
