-- What an entry is for a train register: its call and its reply tell it.
use Rattle.std.specs.Prelude.{ℕ, Bool, true, false, Option, Some, None, if◌then◌else◌}
use Rattle.block_words.specs.Ways.{opposite}
use Rattle.block_words.specs.declared.Way.{Way}
use Rattle.line_plan.specs.Frames.{BoxFields, signal_of}
use Rattle.line_plan.specs.Plans.{PlanFields}
use Rattle.line_plan.specs.declared.signal.Signal.{Signal}
use Rattle.line_plan.specs.declared.signal.To.{To}
use Rattle.line_plan.specs.declared.signal.To.TheVariants as leads
use Rattle.line_law.specs.declared.call.Act.{Act}
use Rattle.line_law.specs.declared.call.Act.TheVariants as acts
use Rattle.line_law.specs.declared.call.Entry.{Entry}
use Rattle.line_law.specs.declared.call.Reply.{Reply}
use Rattle.line_law.specs.declared.call.Reply.TheVariants as replies
use Rattle.line_law.specs.Law.{box_plan_of}
use Rattle.line_law.specs.Levers.{starter_way}
use Rattle.line_law.specs.Refusals.{is_refused}
use Rattle.register_sheet.specs.declared.event.Event.{Event}
use Rattle.register_sheet.specs.declared.event.Event.TheVariants as events

-- a code was rung towards a side; a refusal is remarked of the line that goes out there
abbrev pub rang : Way → ℕ → Reply → Event
rang side code (replies.Rung k) = events.Rang side code
rang side code reply = events.Noted (Some side)

-- a code was heard from a side; a refusal is remarked of the line that comes in from there
abbrev pub heard_from : Way → Reply → Event
heard_from side (replies.Heard code k) = events.Heard side code
heard_from side reply = events.Noted (Some (opposite side))

-- what the register doesn't ask for, but for its refusal
abbrev pub worked : Option Way → Reply → Event
worked way reply = if is_refused reply then events.Noted way else events.Worked

-- a train went past a signal: into a section, off the line, or within the box; a signal at danger that leads within the
-- box is remarked
abbrev pub gone_past : To → ℕ → Bool → Event
gone_past (leads.Section way) train at_danger = events.Departed way train at_danger
gone_past leads.Away train at_danger = events.WentAway train at_danger
gone_past (leads.Place place) train true = events.Noted None
gone_past (leads.Place place) train false = events.Worked

-- a train went past this signal, where the reply says so
abbrev pub past_by : Signal → Bool → Reply → Event
past_by signal at_danger (replies.Passed train) = gone_past signal.to train at_danger
past_by signal at_danger (replies.Entered train k) = gone_past signal.to train at_danger
past_by signal at_danger reply = events.Noted None

-- nothing goes past a signal that isn't there
abbrev pub went_past : Option Signal → Bool → Reply → Event
went_past None at_danger reply = events.Noted None
went_past (Some signal) at_danger reply = past_by signal at_danger reply

-- a train came to the berth of a line, whole or in part
abbrev pub berthed : Way → Reply → Event
berthed way (replies.Berthed train j) = events.Arrived way train true
berthed way (replies.PartBerthed train j) = events.Arrived way train false
berthed way reply = events.Noted (Some way)

-- what a call with its reply is, at a box with this plan; a portion that is cleared away, a winding and a release are
-- remarked, whether or not they were refused
abbrev pub event_by : BoxFields → Act → Reply → Event
event_by box_plan (acts.Ring side code) reply = rang side code reply
event_by box_plan (acts.Hear side) reply = heard_from side reply
event_by box_plan (acts.AwaitBell side code) reply = heard_from side reply
event_by box_plan (acts.Turn way position) reply = worked (Some way) reply
event_by box_plan (acts.AwaitBlock way position) reply = worked (Some way) reply
event_by box_plan (acts.AwaitTrain way) reply = worked (Some way) reply
event_by box_plan (acts.Pull lever) reply = worked (starter_way (signal_of box_plan lever)) reply
event_by box_plan (acts.Put lever) reply = worked (starter_way (signal_of box_plan lever)) reply
event_by box_plan (acts.Bring train) reply = worked None reply
event_by box_plan (acts.Pass lever) reply = went_past (signal_of box_plan lever) false reply
event_by box_plan (acts.Overrun lever) reply = went_past (signal_of box_plan lever) true reply
event_by box_plan (acts.Berth way) reply = berthed way reply
event_by box_plan (acts.BerthPart way) reply = berthed way reply
event_by box_plan (acts.ClearPortion way) reply = events.Noted (Some way)
event_by box_plan (acts.Wind way) reply = events.Noted (Some way)
event_by box_plan (acts.Release way) reply = events.Noted (Some way)

-- what an entry is
abbrev pub event_of : PlanFields → Entry → Event
event_of plan e = event_by (box_plan_of plan e.box_no) e.call.act e.reply
