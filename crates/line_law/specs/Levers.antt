-- Pulling a lever, and putting it back.
use Rattle.std.specs.Prelude.{ℕ, ◌-◌, Option, Some, None, Bool, true, false, not, ◌&&◌, if◌then◌else◌, slice_set}
use Rattle.block_words.specs.declared.Position.TheVariants as shows
use Rattle.block_words.specs.declared.Way.{Way}
use Rattle.block_words.specs.declared.Way.TheVariants.{Down}
use Rattle.locking_table.specs.Meaning.{holder_of}
use Rattle.locking_table.specs.declared.places.End.TheVariants as ends
use Rattle.locking_table.specs.declared.row.Holder.{Holder}
use Rattle.line_plan.specs.Frames.{BoxFields, kind_of, leads_to, signal_of, track_of}
use Rattle.line_plan.specs.declared.frame.Kind.{Kind}
use Rattle.line_plan.specs.declared.frame.Kind.TheVariants as kinds
use Rattle.line_plan.specs.declared.signal.Signal.{Signal}
use Rattle.line_law.specs.declared.call.Reply.{Reply}
use Rattle.line_law.specs.declared.call.Reply.TheVariants.{Pulled, PulledUnder, AlreadyReversed, Spare, HeldByLever}
use Rattle.line_law.specs.declared.call.Reply.TheVariants.{HeldByTrack, HeldByInstrument, Put, AlreadyNormal}
use Rattle.line_law.specs.declared.link.Link.{Link}
use Rattle.line_law.specs.declared.link.Link.TheVariants.{Out, In}
use Rattle.line_law.specs.declared.state.Block.{Block}
use Rattle.line_law.specs.declared.state.BoxState.{BoxState}
use Rattle.line_law.specs.declared.tracks.Standing.{Standing}
use Rattle.line_law.specs.Decisions.{Told, Decision, Here, OnBlock, or_later, unless}
use Rattle.line_law.specs.Instruments.{same_position}
use Rattle.line_law.specs.LeverEnds.{is_pulled}
use Rattle.line_law.specs.Tracks.{first_standing}

-- ---- what keeps a lever where it stands

-- refused where a row of the locking table holds the lever
abbrev pub row_refusal : Option Holder → Option Reply
row_refusal None = None
row_refusal (Some holder) = Some (HeldByLever holder.lever holder.row)

-- refused where a train stands on a place that locks the lever
abbrev pub track_refusal : Option Standing → Option Reply
track_refusal None = None
track_refusal (Some there) = Some (HeldByTrack there.place there.train)

-- the first row that holds the lever, then the first occupied place that locks it
abbrev pub lock_refusal : BoxFields → BoxState → ℕ → Option Reply
lock_refusal box_plan here lever =
    or_later (row_refusal (holder_of here.ends lever box_plan.rows))
    (track_refusal (first_standing here.places (track_of box_plan lever)))

-- ---- pull

-- a spare lever is never pulled
abbrev pub spare_refusal : Option Kind → Option Reply
spare_refusal None = None
spare_refusal (Some kinds.Signal) = None
spare_refusal (Some kinds.Points) = None
spare_refusal (Some kinds.Lock) = None
spare_refusal (Some kinds.Distant) = None
spare_refusal (Some kinds.Spare) = Some Spare

-- what a pull is refused for in the box
abbrev pub pull_refusal : BoxFields → BoxState → ℕ → Option Reply
pull_refusal box_plan here lever =
    if is_pulled here.ends lever then Some AlreadyReversed
    else or_later (spare_refusal (kind_of box_plan lever)) (lock_refusal box_plan here lever)

-- the box with the lever reversed, and its arm off if it has one
abbrev pub pulled : BoxState → ℕ → Option Signal → BoxState
pulled here lever None = record here { ends = slice_set here.ends (lever - 1) ends.Reversed }
pulled here lever (Some signal) =
    record here { ends = slice_set here.ends (lever - 1) ends.Reversed; off = slice_set here.off (lever - 1) true }

-- the outgoing line into whose section a signal leads, if there is a signal and it is a starter
abbrev pub starter_way : Option Signal → Option Way
starter_way None = None
starter_way (Some signal) = leads_to signal

-- an instrument shows Line Clear unspent
abbrev pub is_unspent_clear : Block → Bool
is_unspent_clear block = same_position block.position shows.LineClear && not block.spent

-- a starter's pull reaches its instrument: it succeeds where that shows Line Clear unspent, and leaves it spent
abbrev pub pulled_under : BoxState → BoxState → Way → Block → Told Block
pulled_under here after way block =
    if is_unspent_clear block
    then record { reply = PulledUnder block.turns; here = after; word = record block { spent = true } }
    else record {
      reply = HeldByInstrument way block.position block.spent block.turns;
      here = here;
      word = record block { spent = true };
    }

-- a lever that nothing in the box holds is pulled: at once, or where it is a starter's under its instrument
abbrev pub pull_at : BoxState → BoxState → Option Way → Decision
pull_at here after None = Here Pulled after
pull_at here after (Some way) = OnBlock (pulled_under here after way)

-- a box pulls a lever
abbrev pub pull : BoxFields → BoxState → ℕ → Decision
pull box_plan here lever =
    unless (pull_refusal box_plan here lever) here
    (pull_at here (pulled here lever (signal_of box_plan lever)) (starter_way (signal_of box_plan lever)))

-- the line of the word of a lever: a starter's outgoing line; a lever that is no starter's reaches no word, and stands
-- at the incoming down line
abbrev pub starter_link : Option Way → Link
starter_link None = In Down
starter_link (Some way) = Out way

-- the line of a lever
abbrev pub lever_link : BoxFields → ℕ → Link
lever_link box_plan lever = starter_link (starter_way (signal_of box_plan lever))

-- ---- put

-- what putting a lever back is refused for
abbrev pub put_refusal : BoxFields → BoxState → ℕ → Option Reply
put_refusal box_plan here lever =
    if is_pulled here.ends lever then lock_refusal box_plan here lever else Some AlreadyNormal

-- the box with the lever normal and its arm at danger
abbrev pub put_back : BoxState → ℕ → BoxState
put_back here lever = record here {
  ends = slice_set here.ends (lever - 1) ends.Normal;
  off = slice_set here.off (lever - 1) false;
}

-- a box puts a lever back
abbrev pub put : BoxFields → BoxState → ℕ → Decision
put box_plan here lever = unless (put_refusal box_plan here lever) here (Here Put (put_back here lever))
