-- Which replies a call may have, by what is done.
use Rattle.std.specs.Prelude.{Bool, true, false}
use Rattle.line_law.specs.declared.call.Act.{Act}
use Rattle.line_law.specs.declared.call.Act.TheVariants as acts
use Rattle.line_law.specs.declared.call.Reply.{Reply}
use Rattle.line_law.specs.declared.call.Reply.TheVariants as replies

abbrev pub answers_ring : Reply → Bool
answers_ring (replies.Rung k) = true
answers_ring (replies.BellBusy code k) = true
answers_ring reply = false

abbrev pub answers_hear : Reply → Bool
answers_hear (replies.Heard code k) = true
answers_hear (replies.Silent k) = true
answers_hear reply = false

abbrev pub answers_await_bell : Reply → Bool
answers_await_bell (replies.Heard code k) = true
answers_await_bell (replies.BellNotYet shown k) = true
answers_await_bell reply = false

abbrev pub answers_turn : Reply → Bool
answers_turn (replies.Turned v) = true
answers_turn replies.AlreadyThere = true
answers_turn replies.NotFromNormal = true
answers_turn (replies.HomeReversed lever) = true
answers_turn (replies.TrackOccupied place train) = true
answers_turn (replies.WelwynHolds state) = true
answers_turn (replies.CountFull out) = true
answers_turn reply = false

abbrev pub answers_await_block : Reply → Bool
answers_await_block (replies.Seen v) = true
answers_await_block (replies.BlockNotYet shown v) = true
answers_await_block reply = false

abbrev pub answers_pull : Reply → Bool
answers_pull replies.Pulled = true
answers_pull (replies.PulledUnder v) = true
answers_pull replies.AlreadyReversed = true
answers_pull replies.Spare = true
answers_pull (replies.HeldByLever lever row) = true
answers_pull (replies.HeldByTrack place train) = true
answers_pull (replies.HeldByInstrument way shown spent v) = true
answers_pull reply = false

abbrev pub answers_put : Reply → Bool
answers_put replies.Put = true
answers_put replies.AlreadyNormal = true
answers_put (replies.HeldByLever lever row) = true
answers_put (replies.HeldByTrack place train) = true
answers_put reply = false

abbrev pub answers_bring : Reply → Bool
answers_bring replies.Brought = true
answers_bring replies.AlreadyBrought = true
answers_bring (replies.Occupied place train) = true
answers_bring reply = false

-- what a train may be answered at a signal, whether its arm is off or not
abbrev pub answers_move : Reply → Bool
answers_move (replies.Passed train) = true
answers_move (replies.Entered train k) = true
answers_move replies.NoTrain = true
answers_move (replies.Occupied place train) = true
answers_move (replies.SectionFull k) = true
answers_move reply = false

abbrev pub answers_pass : Reply → Bool
answers_pass replies.AtDanger = true
answers_pass reply = answers_move reply

abbrev pub answers_overrun : Reply → Bool
answers_overrun replies.ArmOff = true
answers_overrun reply = answers_move reply

abbrev pub answers_await_train : Reply → Bool
answers_await_train (replies.Approaching train j) = true
answers_await_train (replies.TrainNotYet j) = true
answers_await_train reply = false

-- the refusals of a train at a berth
abbrev pub refuses_berth : Reply → Bool
refuses_berth (replies.PortionAhead train) = true
refuses_berth (replies.BerthOccupied train) = true
refuses_berth (replies.NoTrainAt j) = true
refuses_berth reply = false

abbrev pub answers_berth : Reply → Bool
answers_berth (replies.Berthed train j) = true
answers_berth reply = refuses_berth reply

abbrev pub answers_berth_part : Reply → Bool
answers_berth_part (replies.PartBerthed train j) = true
answers_berth_part reply = refuses_berth reply

abbrev pub answers_clear_portion : Reply → Bool
answers_clear_portion (replies.Cleared train j) = true
answers_clear_portion replies.NoPortion = true
answers_clear_portion reply = false

abbrev pub answers_wind : Reply → Bool
answers_wind (replies.Winding ready_at) = true
answers_wind replies.AlreadyWinding = true
answers_wind replies.NotAtNormal = true
answers_wind reply = false

abbrev pub answers_release : Reply → Bool
answers_release replies.Released = true
answers_release replies.NotWinding = true
answers_release (replies.TooSoon ready_at) = true
answers_release reply = false

-- The reply is one that such a call may have, whatever its line, lever or train.
unfoldable pub may_answer : Act → Reply → Bool
may_answer (acts.Ring side code) reply = answers_ring reply
may_answer (acts.Hear side) reply = answers_hear reply
may_answer (acts.AwaitBell side code) reply = answers_await_bell reply
may_answer (acts.Turn way position) reply = answers_turn reply
may_answer (acts.AwaitBlock way position) reply = answers_await_block reply
may_answer (acts.Pull lever) reply = answers_pull reply
may_answer (acts.Put lever) reply = answers_put reply
may_answer (acts.Bring train) reply = answers_bring reply
may_answer (acts.Pass lever) reply = answers_pass reply
may_answer (acts.Overrun lever) reply = answers_overrun reply
may_answer (acts.AwaitTrain way) reply = answers_await_train reply
may_answer (acts.Berth way) reply = answers_berth reply
may_answer (acts.BerthPart way) reply = answers_berth_part reply
may_answer (acts.ClearPortion way) reply = answers_clear_portion reply
may_answer (acts.Wind way) reply = answers_wind reply
may_answer (acts.Release way) reply = answers_release reply
