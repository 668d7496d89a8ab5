-- When a lever may be pulled, and what the reply to a pull says.
use Rattle.std.specs.Prelude.{◌≡◌, ◌≢◌, ◌↔◌, ℕ, List, ◌∷◌, ◌++◌, Bool, true, false, Option, Some, None, All, IsTrue}
use Rattle.block_words.specs.declared.Position.TheVariants.{LineClear}
use Rattle.block_words.specs.declared.Way.{Way}
use Rattle.locking_table.specs.Meaning.{IsFirstToFail, MayMove}
use Rattle.locking_table.specs.Places.{end_at}
use Rattle.locking_table.specs.declared.places.End.TheVariants.{Normal, Reversed}
use Rattle.line_plan.specs.Frames.{BoxFields, kind_of, signal_of, track_of}
use Rattle.line_plan.specs.Plans.{PlanFields}
use Rattle.line_plan.specs.declared.frame.Kind.TheVariants as kinds
use Rattle.line_law.specs.declared.call.Reply.{Reply}
use Rattle.line_law.specs.declared.call.Reply.TheVariants as replies
use Rattle.line_law.specs.declared.link.Link.TheVariants.{Out}
use Rattle.line_law.specs.declared.state.Block.{Block}
use Rattle.line_law.specs.declared.state.BoxState.{BoxState}
use Rattle.line_law.specs.Law.{box_plan_of}
use Rattle.line_law.specs.Levers.{starter_way}
use Rattle.line_law.specs.Links.{pair_no}
use Rattle.line_law.specs.States.{LineState, box_at, pair_at}
use Rattle.line_law.specs.Tracks.{train_on}
use Rattle.line_law.specs.Ways.{of_way}

-- ---- what allows a pull

-- a lever that is normal and no spare one
pub record IsWorkable (box_plan : BoxFields) (here : BoxState) (lever : ℕ) : Type 0 where
  pub normal : end_at here.ends lever ≡ Normal
  pub in_use : kind_of box_plan lever ≢ Some kinds.Spare

-- the frame allows the pull: the lever is normal and no spare one, and the locking table lets it move
pub record FrameAllows (box_plan : BoxFields) (here : BoxState) (lever : ℕ) : Type 0 where
  pub workable : IsWorkable box_plan here lever
  pub rows : MayMove here.ends lever box_plan.rows

-- these places are empty
abbrev pub AreEmpty : BoxState → List ℕ → Type 0
AreEmpty here places = All (λ place. train_on here.places place ≡ None) places

-- the track circuits allow it: each place of the lever's line `track` is empty
abbrev pub TracksAllow : BoxFields → BoxState → ℕ → Type 0
TracksAllow box_plan here lever = AreEmpty here (track_of box_plan lever)

-- an instrument shows Line Clear, and no pull has reached it since it was turned there
pub record IsClearUnspent (block : Block) : Type 0 where
  pub position : block.position ≡ LineClear
  pub unspent : block.spent ≡ false

-- the instrument of the section that leaves box b that way
abbrev pub instrument_at : LineState → ℕ → Way → Block
instrument_at state b way = of_way (pair_at state (pair_no b (Out way))).blocks way

-- the instruments allow it: that of a starter shows Line Clear unspent; a lever that is no starter's needs none
abbrev pub InstrumentAllows : LineState → ℕ → Option Way → Type 0
InstrumentAllows state b None = Unit {0}
InstrumentAllows state b (Some way) = IsClearUnspent (instrument_at state b way)

-- the way of the section into which a lever's starter leads, if the lever is a starter's
abbrev pub starter_at : PlanFields → ℕ → ℕ → Option Way
starter_at plan b lever = starter_way (signal_of (box_plan_of plan b) lever)

-- box b may pull the lever: frame, track circuits and instruments allow it
pub record MayPull (plan : PlanFields) (state : LineState) (b lever : ℕ) : Type 0 where
  pub frame : FrameAllows (box_plan_of plan b) (box_at state b) lever
  pub tracks : TracksAllow (box_plan_of plan b) (box_at state b) lever
  pub instruments : InstrumentAllows state b (starter_at plan b lever)

-- ---- what the reply says

-- the lever was pulled
abbrev pub tells_pulled : Reply → Bool
tells_pulled replies.Pulled = true
tells_pulled (replies.PulledUnder v) = true
tells_pulled reply = false

-- a place is the first of these on which a train stands, and this is the train
pub record IsFirstOccupied (here : BoxState) (places : List ℕ) (place train : ℕ) : Type 0 where
  pub front : List ℕ
  pub back : List ℕ
  pub split : places ≡ front ++ place ∷ back
  pub free : AreEmpty here front
  pub there : train_on here.places place ≡ Some train

-- a starter's pull past the frame and the track circuits met its instrument, which stood so
pub record MeetsInstrument (plan : PlanFields) (state : LineState) (b lever : ℕ) (way : Way) (block : Block)
    : Type 0 where
  pub frame : FrameAllows (box_plan_of plan b) (box_at state b) lever
  pub tracks : TracksAllow (box_plan_of plan b) (box_at state b) lever
  pub starter : starter_at plan b lever ≡ Some way
  pub stood : instrument_at state b way ≡ block

-- What the reply to a pull of box b says of the state before it. A refusal names the first thing that isn't so: the
-- lever is reversed; it is normal, but a spare one; it is normal and no spare one, but this is the first row that
-- fails, with the lever that the row names; the frame allows it, but this is the first occupied place of its line
-- `track`, with the train there; frame and track circuits allow it, but the starter's instrument stood so, and not at
-- Line Clear unspent.
abbrev pub PullSays : PlanFields → LineState → ℕ → ℕ → Reply → Type 0
PullSays plan state b lever replies.Pulled = MayPull plan state b lever × (starter_at plan b lever ≡ None)
PullSays plan state b lever (replies.PulledUnder v) = (way : Way)
    × MeetsInstrument plan state b lever way (record { turns = v; position = LineClear; spent = false })
PullSays plan state b lever replies.AlreadyReversed = end_at (box_at state b).ends lever ≡ Reversed
PullSays plan state b lever replies.Spare =
    (end_at (box_at state b).ends lever ≡ Normal) × (kind_of (box_plan_of plan b) lever ≡ Some kinds.Spare)
PullSays plan state b lever (replies.HeldByLever other row) =
    IsWorkable (box_plan_of plan b) (box_at state b) lever
    × IsFirstToFail (box_at state b).ends lever (box_plan_of plan b).rows (record { lever = other; row = row })
PullSays plan state b lever (replies.HeldByTrack place train) =
    FrameAllows (box_plan_of plan b) (box_at state b) lever
    × IsFirstOccupied (box_at state b) (track_of (box_plan_of plan b) lever) place train
PullSays plan state b lever (replies.HeldByInstrument way shown spent v) =
    MeetsInstrument plan state b lever way (record { turns = v; position = shown; spent = spent })
    × ¬ IsClearUnspent (record { turns = v; position = shown; spent = spent })
PullSays plan state b lever reply = ⊥

-- the reply to a pull: pulled exactly where frame, track circuits and instruments allow it, and else it says why not
pub record IsPullTold (plan : PlanFields) (state : LineState) (b lever : ℕ) (reply : Reply) : Type 0 where
  pub exact : IsTrue (tells_pulled reply) ↔ MayPull plan state b lever
  pub says : PullSays plan state b lever reply
