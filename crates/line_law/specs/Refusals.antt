-- Which replies are refusals, and what a refused call leaves.
use Rattle.std.specs.Prelude.{ℕ, Bool, true, false, ◌&&◌, not, slice_set}
use Rattle.block_words.specs.declared.Way.{Way}
use Rattle.line_law.specs.declared.call.Call.{Call}
use Rattle.line_law.specs.declared.call.Reply.{Reply}
use Rattle.line_law.specs.declared.call.Reply.TheVariants as replies
use Rattle.line_law.specs.declared.link.Link.TheVariants.{Out}
use Rattle.line_law.specs.declared.state.PairState.{PairState}
use Rattle.line_law.specs.Law.{at_moment}
use Rattle.line_law.specs.Links.{pair_no}
use Rattle.line_law.specs.States.{LineState, box_at, pair_at}
use Rattle.line_law.specs.Ways.{of_way, with_way}

-- a reply by which what was asked for is done
abbrev pub is_success : Reply → Bool
is_success (replies.Rung k) = true
is_success (replies.Heard code k) = true
is_success (replies.Turned v) = true
is_success (replies.Seen v) = true
is_success replies.Pulled = true
is_success (replies.PulledUnder v) = true
is_success replies.Put = true
is_success replies.Brought = true
is_success (replies.Passed train) = true
is_success (replies.Entered train k) = true
is_success (replies.Approaching train j) = true
is_success (replies.Berthed train j) = true
is_success (replies.PartBerthed train j) = true
is_success (replies.Cleared train j) = true
is_success (replies.Winding ready_at) = true
is_success replies.Released = true
is_success reply = false

-- every other reply is a refusal
abbrev pub is_refused : Reply → Bool
is_refused reply = not (is_success reply)

-- a refusal by the bell, the instrument or the plain line that the call reaches
abbrev pub is_refused_there : Reply → Bool
is_refused_there (replies.BellBusy code k) = true
is_refused_there (replies.Silent k) = true
is_refused_there (replies.BellNotYet shown k) = true
is_refused_there (replies.BlockNotYet shown v) = true
is_refused_there (replies.HeldByInstrument way shown spent v) = true
is_refused_there (replies.SectionFull k) = true
is_refused_there (replies.TrainNotYet j) = true
is_refused_there (replies.NoTrainAt j) = true
is_refused_there reply = false

-- every other refusal is one by the state of the box alone, whatever it shares with its neighbours
abbrev pub is_refused_here : Reply → Bool
is_refused_here reply = is_refused reply && not (is_refused_there reply)

-- ---- a line after a refused call

-- a starter's pull was refused by its instrument
abbrev pub is_held_by_instrument : Reply → Bool
is_held_by_instrument (replies.HeldByInstrument way shown spent v) = true
is_held_by_instrument reply = false

-- the line with the last moment of box b at that of its call, and all else as it was
abbrev pub with_moment : LineState → ℕ → Call → LineState
with_moment state b call = record state { boxes = slice_set state.boxes b (at_moment (box_at state b) call.moment) }

-- two neighbours with the instrument of that way spent, and all else as it was
abbrev pub pair_spent : PairState → Way → PairState
pair_spent pair way =
    record pair { blocks = with_way pair.blocks way (record (of_way pair.blocks way) { spent = true }) }

-- the line with the instrument of the section that leaves box b that way spent, and all else as it was
abbrev pub with_spent : LineState → ℕ → Way → LineState
with_spent state b way =
    record state {
      pairs = slice_set state.pairs (pair_no b (Out way)) (pair_spent (pair_at state (pair_no b (Out way))) way);
    }
