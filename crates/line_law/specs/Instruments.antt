-- The calls on block instruments.
use Rattle.std.specs.Prelude.{ℕ, ◌+◌, ◌∷◌, Option, Some, None, Bool, true, false, ◌==◌, if◌then◌else◌}
use Rattle.block_words.specs.declared.Position.{Position}
use Rattle.block_words.specs.declared.Position.TheVariants as shows
use Rattle.block_words.specs.declared.Way.{Way}
use Rattle.block_words.specs.declared.WelwynState.{WelwynState}
use Rattle.block_words.specs.declared.WelwynState.TheVariants as welwyn
use Rattle.line_plan.specs.Sections.{most_of}
use Rattle.line_plan.specs.declared.berth.Berth.{Berth}
use Rattle.line_law.specs.declared.call.Reply.{Reply}
use Rattle.line_law.specs.declared.call.Reply.TheVariants.{Turned, AlreadyThere, NotFromNormal, HomeReversed}
use Rattle.line_law.specs.declared.call.Reply.TheVariants.{TrackOccupied, WelwynHolds, CountFull, Seen, BlockNotYet}
use Rattle.line_law.specs.declared.state.Block.{Block}
use Rattle.line_law.specs.declared.state.BoxState.{BoxState}
use Rattle.line_law.specs.declared.state.Control.{Control}
use Rattle.line_law.specs.declared.state.Control.TheVariants.{Absolute, Permissive}
use Rattle.line_law.specs.declared.state.Incoming.{Incoming}
use Rattle.line_law.specs.declared.tracks.Standing.{Standing}
use Rattle.line_law.specs.Controls.{given}
use Rattle.line_law.specs.Decisions.{Told, Decision, Here, OnBlock, or_later, unless}
use Rattle.line_law.specs.LeverEnds.{first_reversed}
use Rattle.line_law.specs.Tracks.{first_standing}
use Rattle.line_law.specs.Ways.{of_way, with_way}

-- two positions are the same
abbrev pub same_position : Position → Position → Bool
same_position shows.Normal shows.Normal = true
same_position shows.Normal shows.LineClear = false
same_position shows.Normal shows.TrainOnLine = false
same_position shows.LineClear shows.Normal = false
same_position shows.LineClear shows.LineClear = true
same_position shows.LineClear shows.TrainOnLine = false
same_position shows.TrainOnLine shows.Normal = false
same_position shows.TrainOnLine shows.LineClear = false
same_position shows.TrainOnLine shows.TrainOnLine = true

-- ---- turn

-- Line Clear is turned to from Normal alone
abbrev pub from_refusal : Position → Option Reply
from_refusal shows.Normal = None
from_refusal shows.LineClear = Some NotFromNormal
from_refusal shows.TrainOnLine = Some NotFromNormal

-- refused where a home is reversed
abbrev pub home_refusal : Option ℕ → Option Reply
home_refusal None = None
home_refusal (Some lever) = Some (HomeReversed lever)

-- refused where a train stands on the berth or on a clearing place
abbrev pub clearing_refusal : Option Standing → Option Reply
clearing_refusal None = None
clearing_refusal (Some there) = Some (TrackOccupied there.place there.train)

-- refused where the Welwyn state isn't Ready
abbrev pub welwyn_refusal : WelwynState → Option Reply
welwyn_refusal welwyn.Ready = None
welwyn_refusal welwyn.Given = Some (WelwynHolds welwyn.Given)
welwyn_refusal welwyn.Berthed = Some (WelwynHolds welwyn.Berthed)

-- on an absolute line the berth and then the clearing places have to be clear, and the Welwyn state Ready; on a
-- permissive line of n fewer than n trains out
abbrev pub control_refusal : Control → BoxState → Berth → Option Reply
control_refusal (Absolute state) here berth =
    or_later (clearing_refusal (first_standing here.places (berth.place ∷ berth.clearing))) (welwyn_refusal state)
control_refusal (Permissive out) here berth = if out == most_of berth.permissive then Some (CountFull out) else None

-- what Line Clear is refused for beside
abbrev pub clear_refusal : BoxState → Berth → Incoming → Option Reply
clear_refusal here berth line =
    or_later (from_refusal line.position)
    (or_later (home_refusal (first_reversed here.ends berth.homes)) (control_refusal line.control here berth))

-- what a turn past the position that is there is refused for
abbrev pub position_refusal : Position → BoxState → Berth → Incoming → Option Reply
position_refusal shows.Normal here berth line = None
position_refusal shows.LineClear here berth line = clear_refusal here berth line
position_refusal shows.TrainOnLine here berth line = None

-- refused where the commutator shows the position
abbrev pub turn_refusal : BoxState → Berth → Incoming → Position → Option Reply
turn_refusal here berth line position =
    if same_position line.position position then Some AlreadyThere else position_refusal position here berth line

-- the incoming line after its commutator was turned for the v-th time; Line Clear ends a winding and is given
abbrev pub line_turned : Incoming → Position → ℕ → Incoming
line_turned line shows.Normal v = record line { position = shows.Normal; turns = v }
line_turned line shows.LineClear v =
    record line { position = shows.LineClear; turns = v; control = given line.control; ready_at = None }
line_turned line shows.TrainOnLine v = record line { position = shows.TrainOnLine; turns = v }

-- the commutator is turned, and its instrument: the count rises, and the instrument is unspent
abbrev pub turned : BoxState → Way → Position → Block → Told Block
turned here way position block =
    record {
      reply = Turned (block.turns + 1);
      here = record here {
        incoming = with_way here.incoming way
            (line_turned (of_way here.incoming way) position (block.turns + 1));
      };
      word = record { turns = block.turns + 1; position = position; spent = false };
    }

-- a box turns the commutator of the incoming line that has this berth; without a berth no plan knows the call
abbrev pub turn : Option Berth → BoxState → Way → Position → Decision
turn None here way position = Here AlreadyThere here
turn (Some berth) here way position =
    unless (turn_refusal here berth (of_way here.incoming way) position) here (OnBlock (turned here way position))

-- ---- await_block

-- a box looks whether an instrument shows a position; nothing changes
abbrev pub await_block : BoxState → Position → Block → Told Block
await_block here position block =
    if same_position block.position position
    then record { reply = Seen block.turns; here = here; word = block }
    else record { reply = BlockNotYet block.position block.turns; here = here; word = block }
