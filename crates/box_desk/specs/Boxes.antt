-- What a desk has of its box: the law's box state, in parts.
use Rattle.std.specs.Prelude.{◌≡◌, ℕ, ◌≤◌, length}
use Rattle.block_words.specs.declared.Way.{Way}
use Rattle.line_plan.specs.Frames.{BoxFields, berth_of}
use Rattle.line_law.specs.declared.state.BoxState.{BoxState}
use Rattle.line_law.specs.Ways.{of_way}
use Rattle.word_laws.specs.Operations.{HasTrainNos}
use Rattle.lever_frame.specs.LeverFrames.{IsFrameOf}
use Rattle.box_desk.specs.declared.equipment.Equipment.{Equipment}
use Rattle.box_desk.specs.IncomingLines.{SuitsBerth, incoming_by}

-- the state of the box: its lever ends and arms are the frame's
abbrev pub here_of : Equipment → BoxState
here_of box =
    record {
      ends = box.frame.ends;
      off = box.frame.off;
      places = box.tracks;
      brought = box.trains.brought;
      rung = box.rung;
      sent = box.sent;
      incoming = incoming_by box.lines;
      moment = box.moment;
    }

-- the equipment is that of a box with this plan: the frame is the box's, with an arm for each lever; each place has its
-- track circuit; and each incoming line has its kind of control
pub record IsFitted (box_plan : BoxFields) (box : Equipment) : Type 0 where
  pub frame : IsFrameOf box_plan box.frame
  pub arms : length box.frame.off ≡ length box.frame.ends
  pub tracks : length box.tracks ≡ length box_plan.places
  pub lines : (way : Way) → SuitsBerth (berth_of box_plan way) (of_way box.lines way).control

-- a box after so many calls, on a line with so many trains: none of its counts is above the number of calls; each train
-- was brought here or not; and each train at a place fits a lane
pub record IsCounted (calls trains : ℕ) (here : BoxState) : Type 0 where
  pub rung : (way : Way) → of_way here.rung way ≤ calls
  pub sent : (way : Way) → of_way here.sent way ≤ calls
  pub turns : (way : Way) → (of_way here.incoming way).turns ≤ calls
  pub taken : (way : Way) → (of_way here.incoming way).taken ≤ calls
  pub brought : length here.brought ≡ trains
  pub stands : HasTrainNos here

-- a box after fewer than 2^32 calls
abbrev pub AreFew : BoxState → Type 0
AreFew here = IsCounted 4294967295 (length here.brought) here
