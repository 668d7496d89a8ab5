-- What a train does by an entry of a journal: it is told by the call and its reply.
use Rattle.std.specs.Prelude.{ℕ, ◌+◌, Bool, true, false, List, [], ◌∷◌, ◌++◌, Option, Some, None, option_to_list}
use Rattle.std.specs.Prelude.{if◌then◌else◌}
use Rattle.block_words.specs.declared.Way.{Way}
use Rattle.line_plan.specs.Frames.{BoxFields, berth_of, signal_of}
use Rattle.line_plan.specs.Plans.{PlanFields, is_train, train_at}
use Rattle.line_plan.specs.declared.berth.Berth.{Berth}
use Rattle.line_plan.specs.declared.signal.Signal.{Signal}
use Rattle.line_plan.specs.declared.signal.To.{To}
use Rattle.line_plan.specs.declared.signal.To.TheVariants as leads
use Rattle.line_law.specs.declared.call.Act.{Act}
use Rattle.line_law.specs.declared.call.Act.TheVariants as acts
use Rattle.line_law.specs.declared.call.Entry.{Entry}
use Rattle.line_law.specs.declared.call.Reply.{Reply}
use Rattle.line_law.specs.declared.call.Reply.TheVariants as replies
use Rattle.line_law.specs.Law.{box_plan_of}
use Rattle.graph_scene.specs.declared.deeds.Deed.{Deed}
use Rattle.graph_scene.specs.declared.deeds.Deed.TheVariants as deeds
use Rattle.graph_scene.specs.declared.deeds.TrainDeed.{TrainDeed}

-- a train, and what it does
abbrev pub Done : Type 0
Done = ℕ × Deed

-- a train of the plan is brought to its place
abbrev pub brought : PlanFields → ℕ → Reply → Option Done
brought plan train replies.Brought =
    if is_train plan.trains train then Some (train, deeds.Brought (train_at plan.trains train).place) else None
brought plan train reply = None

-- what a train does that goes past a signal, from where it stood to where that leads
abbrev pub gone : ℕ → To → Bool → Deed
gone from (leads.Place place) at_danger = deeds.Passed from place at_danger
gone from (leads.Section way) at_danger = deeds.Entered from way at_danger
gone from leads.Away at_danger = deeds.Away from at_danger

-- a train goes past a signal, where the reply says so
abbrev pub gone_past : Signal → Bool → Reply → Option Done
gone_past signal at_danger (replies.Passed train) = Some (train, gone signal.from signal.to at_danger)
gone_past signal at_danger (replies.Entered train k) = Some (train, gone signal.from signal.to at_danger)
gone_past signal at_danger reply = None

-- nothing goes past a signal that isn't there
abbrev pub went_past : Option Signal → Bool → Reply → Option Done
went_past None at_danger reply = None
went_past (Some signal) at_danger reply = gone_past signal at_danger reply

-- a train comes to a berth of an incoming line, whole or in part, where the reply says so
abbrev pub berthed_at : ℕ → Way → Reply → Option Done
berthed_at place way (replies.Berthed train j) = Some (train, deeds.Berthed place way)
berthed_at place way (replies.PartBerthed train j) = Some (train, deeds.PartBerthed place way)
berthed_at place way reply = None

abbrev pub berthed : Option Berth → Way → Reply → Option Done
berthed None way reply = None
berthed (Some berth) way reply = berthed_at berth.place way reply

-- the left portion of a train is cleared away
abbrev pub cleared : Way → Reply → Option Done
cleared way (replies.Cleared train j) = Some (train, deeds.Cleared way)
cleared way reply = None

-- which train did what at a box with this plan, by the call and its reply
abbrev pub done_by : PlanFields → BoxFields → Act → Reply → Option Done
done_by plan box_plan (acts.Bring train) reply = brought plan train reply
done_by plan box_plan (acts.Pass lever) reply = went_past (signal_of box_plan lever) false reply
done_by plan box_plan (acts.Overrun lever) reply = went_past (signal_of box_plan lever) true reply
done_by plan box_plan (acts.Berth way) reply = berthed (berth_of box_plan way) way reply
done_by plan box_plan (acts.BerthPart way) reply = berthed (berth_of box_plan way) way reply
done_by plan box_plan (acts.ClearPortion way) reply = cleared way reply
done_by plan box_plan act reply = None

-- the deed of a train at a box, by the entry with this number
abbrev pub deed_at : ℕ → ℕ → Option Done → Option TrainDeed
deed_at number b None = None
deed_at number b (Some done) = Some (record { entry = number; box_no = b; train = done.0; deed = done.1 })

-- the deed of a train by an entry, if there is one
abbrev pub deed_of : PlanFields → ℕ → Entry → Option TrainDeed
deed_of plan number e =
    deed_at number e.box_no (done_by plan (box_plan_of plan e.box_no) e.call.act e.reply)

-- the deeds of trains by entries with these numbers and the next, in order
abbrev pub deeds_from : PlanFields → ℕ → List Entry → List TrainDeed
deeds_from plan number [] = []
deeds_from plan number (e ∷ es) = option_to_list (deed_of plan number e) ++ deeds_from plan (number + 1) es

-- the deeds of trains by a journal, whose entries are numbered from 0
abbrev pub deeds_of : PlanFields → List Entry → List TrainDeed
deeds_of plan es = deeds_from plan 0 es
