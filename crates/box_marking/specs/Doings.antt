-- What was done at a box by an entry, as far as an instructor marks it: the call and its reply tell it.
use Rattle.std.specs.Prelude.{ℕ, Option, Some, None, if◌then◌else◌}
use Rattle.block_words.specs.declared.Position.{Position}
use Rattle.block_words.specs.declared.Way.{Way}
use Rattle.block_words.specs.declared.Way.TheVariants.{Up, Down}
use Rattle.line_plan.specs.Frames.{BoxFields, berth_of, signal_of}
use Rattle.line_plan.specs.Plans.{PlanFields}
use Rattle.line_plan.specs.declared.signal.Signal.{Signal}
use Rattle.line_law.specs.declared.call.Act.{Act}
use Rattle.line_law.specs.declared.call.Act.TheVariants as acts
use Rattle.line_law.specs.declared.call.Entry.{Entry}
use Rattle.line_law.specs.declared.call.Reply.{Reply}
use Rattle.line_law.specs.declared.call.Reply.TheVariants as replies
use Rattle.line_law.specs.Law.{box_plan_of}
use Rattle.line_law.specs.Levers.{starter_way}
use Rattle.line_report.specs.Gains.{is_home}
use Rattle.reg_audit.specs.Bells.{heard, rung}
use Rattle.box_marking.specs.declared.doing.Doing.{Doing}
use Rattle.box_marking.specs.declared.doing.Doing.TheVariants as doings

-- a code was rung towards a side
abbrev pub rang : Way → ℕ → Reply → Doing
rang side code (replies.Rung k) = doings.Bell side (rung code)
rang side code reply = doings.Nothing

-- a code was heard from a side
abbrev pub heard_from : Way → Reply → Doing
heard_from side (replies.Heard code k) = doings.Bell side (heard code)
heard_from side reply = doings.Nothing

-- the commutator of an incoming line was turned to a position
abbrev pub turned_to : Way → Position → Reply → Doing
turned_to way position (replies.Turned v) = doings.Turned way position
turned_to way position reply = doings.Nothing

-- the starter of an outgoing line, if the signal is one, was pulled under Line Clear
abbrev pub pulled_starter : Option Way → Reply → Doing
pulled_starter (Some way) (replies.PulledUnder v) = doings.PulledStarter way
pulled_starter starter reply = doings.Nothing

-- a lever was put back
abbrev pub put_back : ℕ → Reply → Doing
put_back lever replies.Put = doings.PutBack lever
put_back lever reply = doings.Nothing

-- the incoming line of whose berth a signal is a home, if it is one
abbrev pub home_line : BoxFields → Option Signal → Option Way
home_line box_plan signal =
    if is_home (berth_of box_plan Up) signal then Some Up
    else if is_home (berth_of box_plan Down) signal then Some Down
    else None

-- a train passed a starter, if the signal is one, into its section
abbrev pub past_starter : Option Way → ℕ → ℕ → ℕ → Doing
past_starter None lever train k = doings.Nothing
past_starter (Some way) lever train k = doings.PassedStarter way lever train k

-- a train passed a home, if the signal is one
abbrev pub past_home : Option Way → ℕ → Doing
past_home None lever = doings.Nothing
past_home (Some way) lever = doings.PassedHome way lever

-- a train passed the signal of a lever: a starter into its section, or a home
abbrev pub gone_past : BoxFields → ℕ → Reply → Doing
gone_past box_plan lever (replies.Entered train k) =
    past_starter (starter_way (signal_of box_plan lever)) lever train k
gone_past box_plan lever (replies.Passed train) = past_home (home_line box_plan (signal_of box_plan lever)) lever
gone_past box_plan lever reply = doings.Nothing

-- a train overran a starter, if the signal is one, into its section
abbrev pub overran : Option Way → Reply → Doing
overran (Some way) (replies.Entered train k) = doings.Overran way k
overran starter reply = doings.Nothing

-- the instrument of an outgoing line was seen to show what was awaited
abbrev pub saw : Way → Reply → Doing
saw way (replies.Seen v) = doings.Saw way
saw way reply = doings.Nothing

-- a train was found on an incoming line
abbrev pub found : Way → Reply → Doing
found way (replies.Approaching train j) = doings.Found way j
found way reply = doings.Nothing

-- a train came to the berth of an incoming line, whole or in part
abbrev pub berthed : Way → Reply → Doing
berthed way (replies.Berthed train j) = doings.Berthed way j
berthed way (replies.PartBerthed train j) = doings.Berthed way j
berthed way reply = doings.Nothing

-- what was done at a box with this plan; nothing by the calls that aren't named
abbrev pub doing_by : BoxFields → Act → Reply → Doing
doing_by box_plan (acts.Ring side code) reply = rang side code reply
doing_by box_plan (acts.Hear side) reply = heard_from side reply
doing_by box_plan (acts.AwaitBell side code) reply = heard_from side reply
doing_by box_plan (acts.Turn way position) reply = turned_to way position reply
doing_by box_plan (acts.Pull lever) reply = pulled_starter (starter_way (signal_of box_plan lever)) reply
doing_by box_plan (acts.Put lever) reply = put_back lever reply
doing_by box_plan (acts.Pass lever) reply = gone_past box_plan lever reply
doing_by box_plan (acts.Overrun lever) reply = overran (starter_way (signal_of box_plan lever)) reply
doing_by box_plan (acts.AwaitBlock way position) reply = saw way reply
doing_by box_plan (acts.AwaitTrain way) reply = found way reply
doing_by box_plan (acts.Berth way) reply = berthed way reply
doing_by box_plan (acts.BerthPart way) reply = berthed way reply
doing_by box_plan act reply = doings.Nothing

-- what was done by an entry
abbrev pub doing_of : PlanFields → Entry → Doing
doing_of plan e = doing_by (box_plan_of plan e.box_no) e.call.act e.reply
