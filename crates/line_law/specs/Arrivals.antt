-- The arrival of trains from a section.
use Rattle.std.specs.Prelude.{ℕ, ◌+◌, List, [], ◌∷◌, Option, Some, None, ◌==◌, if◌then◌else◌, drop, slice_set}
use Rattle.block_words.specs.declared.Way.{Way}
use Rattle.line_plan.specs.declared.berth.Berth.{Berth}
use Rattle.line_law.specs.declared.call.Reply.{Reply}
use Rattle.line_law.specs.declared.call.Reply.TheVariants.{Approaching, TrainNotYet, Berthed, PartBerthed, NoTrainAt}
use Rattle.line_law.specs.declared.call.Reply.TheVariants.{BerthOccupied, PortionAhead, Cleared, NoPortion}
use Rattle.line_law.specs.declared.state.BoxState.{BoxState}
use Rattle.line_law.specs.declared.state.Incoming.{Incoming}
use Rattle.line_law.specs.declared.state.Passage.{Passage}
use Rattle.line_law.specs.Controls.{berthed_control}
use Rattle.line_law.specs.Decisions.{Told, Decision, Here, OnPlainLine, or_later, unless}
use Rattle.line_law.specs.Tracks.{train_on}
use Rattle.line_law.specs.Ways.{of_way, with_way}

-- the number of the train that an incoming line takes next: one more than the trains taken
abbrev pub next_number : BoxState → Way → ℕ
next_number here way = (of_way here.incoming way).taken + 1

-- the train with number j, where it is the first on the plain line
abbrev pub first_train : ℕ → List Passage → Option ℕ
first_train j [] = None
first_train j (first ∷ later) = if first.number == j then Some first.train else None

-- the train that an incoming line takes next, where it is on the plain line
abbrev pub next_train : BoxState → Way → List Passage → Option ℕ
next_train here way line = first_train (next_number here way) line

-- ---- await_train

-- await_train, by train j on the plain line; nothing changes
abbrev pub train_awaited : Option ℕ → BoxState → ℕ → List Passage → Told (List Passage)
train_awaited None here j line = record { reply = TrainNotYet j; here = here; word = line }
train_awaited (Some train) here j line = record { reply = Approaching train j; here = here; word = line }

-- a box looks whether the next train approaches
abbrev pub await_train : BoxState → Way → List Passage → Told (List Passage)
await_train here way line = train_awaited (next_train here way line) here (next_number here way) line

-- ---- what keeps a train out of the berth

-- refused where a portion is left
abbrev pub portion_refusal : Option ℕ → Option Reply
portion_refusal None = None
portion_refusal (Some train) = Some (PortionAhead train)

-- refused where a train stands in the berth
abbrev pub berth_occupied : Option ℕ → Option Reply
berth_occupied None = None
berth_occupied (Some train) = Some (BerthOccupied train)

-- what coming into the berth is refused for in the box
abbrev pub berth_refusal : BoxState → Way → Berth → Option Reply
berth_refusal here way berth =
    or_later (portion_refusal (of_way here.incoming way).portion) (berth_occupied (train_on here.places berth.place))

-- ---- berth

-- the incoming line after train j has come whole into the berth
abbrev pub line_berthed : Incoming → ℕ → Incoming
line_berthed line j = record line { taken = j; control = berthed_control line.control; ready_at = None }

-- the box with the train in the berth
abbrev pub in_berth : BoxState → Way → ℕ → ℕ → Incoming → BoxState
in_berth here way place train line =
    record here { places = slice_set here.places place (Some train); incoming = with_way here.incoming way line }

-- berth, by train j on the plain line: it leaves that for the berth; refused where it isn't there
abbrev pub train_berthed : Option ℕ → BoxState → Way → ℕ → ℕ → List Passage → Told (List Passage)
train_berthed None here way place j line = record { reply = NoTrainAt j; here = here; word = line }
train_berthed (Some train) here way place j line =
    record {
      reply = Berthed train j;
      here = in_berth here way place train (line_berthed (of_way here.incoming way) j);
      word = drop 1 line;
    }

-- the next train comes into the berth, past what the box refuses
abbrev pub berthed : BoxState → Way → ℕ → List Passage → Told (List Passage)
berthed here way place line = train_berthed (next_train here way line) here way place (next_number here way) line

-- the next train of an incoming line comes whole into the berth; a line without a berth is known to no plan
abbrev pub berth : Option Berth → BoxState → Way → Decision
berth None here way = Here (BerthOccupied 0) here
berth (Some berth_plan) here way =
    unless (berth_refusal here way berth_plan) here (OnPlainLine (berthed here way berth_plan.place))

-- ---- berth_part

-- the incoming line after a train has come into the berth and left a portion on the plain line
abbrev pub line_parted : Incoming → ℕ → Incoming
line_parted line train = record line { portion = Some train; control = berthed_control line.control; ready_at = None }

-- berth_part, by train j on the plain line: it comes into the berth, and stays on the line as a portion
abbrev pub train_parted : Option ℕ → BoxState → Way → ℕ → ℕ → List Passage → Told (List Passage)
train_parted None here way place j line = record { reply = NoTrainAt j; here = here; word = line }
train_parted (Some train) here way place j line =
    record {
      reply = PartBerthed train j;
      here = in_berth here way place train (line_parted (of_way here.incoming way) train);
      word = line;
    }

-- the next train comes into the berth in part, past what the box refuses
abbrev pub parted : BoxState → Way → ℕ → List Passage → Told (List Passage)
parted here way place line = train_parted (next_train here way line) here way place (next_number here way) line

-- the next train of an incoming line comes into the berth and leaves a portion; a line without a berth is known to no
-- plan
abbrev pub berth_part : Option Berth → BoxState → Way → Decision
berth_part None here way = Here (BerthOccupied 0) here
berth_part (Some berth_plan) here way =
    unless (berth_refusal here way berth_plan) here (OnPlainLine (parted here way berth_plan.place))

-- ---- clear_portion

-- the incoming line after the portion of train j was cleared away
abbrev pub line_cleared : Incoming → ℕ → Incoming
line_cleared line j = record line { taken = j; portion = None }

-- the box with the portion of train j cleared away
abbrev pub cleared_here : BoxState → Way → ℕ → BoxState
cleared_here here way j =
    record here { incoming = with_way here.incoming way (line_cleared (of_way here.incoming way) j) }

-- clear_portion, by train j on the plain line: it leaves that
abbrev pub train_cleared : Option ℕ → BoxState → Way → ℕ → List Passage → Told (List Passage)
train_cleared None here way j line = record { reply = NoTrainAt j; here = here; word = line }
train_cleared (Some train) here way j line =
    record { reply = Cleared train j; here = cleared_here here way j; word = drop 1 line }

-- the portion is cleared away, which is of the next train
abbrev pub cleared : BoxState → Way → List Passage → Told (List Passage)
cleared here way line = train_cleared (next_train here way line) here way (next_number here way) line

-- refused where no portion is left
abbrev pub clear_portion_refusal : Option ℕ → Option Reply
clear_portion_refusal None = Some NoPortion
clear_portion_refusal (Some train) = None

-- a box has the left portion of an incoming line cleared away
abbrev pub clear_portion : BoxState → Way → Decision
clear_portion here way =
    unless (clear_portion_refusal (of_way here.incoming way).portion) here (OnPlainLine (cleared here way))
