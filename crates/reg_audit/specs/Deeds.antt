-- What a signalman did by a call, as far as the regulations ask: it is told by the call and its reply.
use Rattle.std.specs.Prelude.{◌≡◌, ℕ, Bool, true, false, List, Option, Some, None, slice_get, if◌then◌else◌}
use Rattle.block_words.specs.declared.Way.{Way}
use Rattle.block_words.specs.declared.Way.TheVariants.{Up, Down}
use Rattle.line_plan.specs.Frames.{BoxFields, berth_of, signal_of}
use Rattle.line_plan.specs.Plans.{PlanFields}
use Rattle.line_plan.specs.declared.signal.Signal.{Signal}
use Rattle.line_law.specs.declared.call.Act.{Act}
use Rattle.line_law.specs.declared.call.Act.TheVariants as acts
use Rattle.line_law.specs.declared.call.Entry.{Entry}
use Rattle.line_law.specs.declared.call.Reply.{Reply}
use Rattle.line_law.specs.declared.call.Reply.TheVariants as replies
use Rattle.line_law.specs.declared.ways.ByWay.{ByWay}
use Rattle.line_law.specs.Law.{box_plan_of}
use Rattle.line_law.specs.Levers.{starter_way}
use Rattle.line_law.specs.Sections.{is_part_berthed, is_released}
use Rattle.line_report.specs.Gains.{is_home}
use Rattle.reg_audit.specs.declared.deed.Deed.{Deed}
use Rattle.reg_audit.specs.declared.deed.Deed.TheVariants as deeds

-- ---- replies

abbrev pub is_rung : Reply → Bool
is_rung (replies.Rung k) = true
is_rung reply = false

abbrev pub is_turned : Reply → Bool
is_turned (replies.Turned v) = true
is_turned reply = false

abbrev pub is_berthed : Reply → Bool
is_berthed (replies.Berthed train j) = true
is_berthed reply = false

-- ---- deeds

-- a deed that is done where the reply says so
abbrev pub done_if : Bool → Deed → Deed
done_if done deed = if done then deed else deeds.Nothing

-- a code was heard from a side, where the reply tells it
abbrev pub heard_from : Way → Reply → Deed
heard_from side (replies.Heard code k) = deeds.Heard side code
heard_from side reply = deeds.Nothing

-- the berth of which incoming line a signal is a home of, if there is a signal: a train that goes past it leaves that
-- berth
abbrev pub homes_by : BoxFields → Option Signal → ByWay Bool
homes_by box_plan signal =
    record { up = is_home (berth_of box_plan Up) signal; down = is_home (berth_of box_plan Down) signal }

-- a train went past a signal, with its arm off or at danger: within the box or away, or past a starter into a section
abbrev pub went_past : BoxFields → Option Signal → Bool → Reply → Deed
went_past box_plan signal at_danger (replies.Passed train) =
    deeds.WentPast None (homes_by box_plan signal) at_danger
went_past box_plan signal at_danger (replies.Entered train k) =
    deeds.WentPast (starter_way signal) (homes_by box_plan signal) at_danger
went_past box_plan signal at_danger reply = deeds.Nothing

-- what was done at a box with this plan, by the call and its reply; nothing by the calls that aren't named
abbrev pub deed_by : BoxFields → Act → Reply → Deed
deed_by box_plan (acts.Ring side code) reply = done_if (is_rung reply) (deeds.Rang side code)
deed_by box_plan (acts.Hear side) reply = heard_from side reply
deed_by box_plan (acts.AwaitBell side code) reply = heard_from side reply
deed_by box_plan (acts.Turn way position) reply = done_if (is_turned reply) (deeds.Turned way position)
deed_by box_plan (acts.Pass lever) reply = went_past box_plan (signal_of box_plan lever) false reply
deed_by box_plan (acts.Overrun lever) reply = went_past box_plan (signal_of box_plan lever) true reply
deed_by box_plan (acts.Berth way) reply = done_if (is_berthed reply) (deeds.Berthed way)
deed_by box_plan (acts.BerthPart way) reply = done_if (is_part_berthed reply) (deeds.PartBerthed way)
deed_by box_plan (acts.Release way) reply = done_if (is_released reply) deeds.Released
deed_by box_plan act reply = deeds.Nothing

-- what was done by an entry
abbrev pub deed_of : PlanFields → Entry → Deed
deed_of plan e = deed_by (box_plan_of plan e.box_no) e.call.act e.reply

-- ---- in a journal

-- at this place of a journal, from 0, stands an entry of box b, by which something of this kind was done
pub record HasDone (plan : PlanFields) (es : List Entry) (b : ℕ) (kind : Deed → Type 0) (place : ℕ) : Type 0 where
  pub entry : Entry
  pub at : slice_get es place ≡ Some entry
  pub box_no : entry.box_no ≡ b
  pub done : kind (deed_of plan entry)
