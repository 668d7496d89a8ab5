-- The trains in a section, and histories that are clean for it.
use Rattle.std.specs.Prelude.{◌≡◌, ℕ, ◌+◌, ◌==◌, Bool, true, false, ◌&&◌, ◌||◌, List, Option, Some, None, length}
use Rattle.std.specs.List.{list_any}
use Rattle.line_plan.specs.Frames.{is_way, same_way, signal_of}
use Rattle.line_plan.specs.Plans.{PlanFields}
use Rattle.line_plan.specs.Sections.{advance_of, section_berth}
use Rattle.line_plan.specs.declared.berth.Berth.{Berth}
use Rattle.line_plan.specs.declared.section.Section.{Section}
use Rattle.line_law.specs.declared.call.Act.{Act}
use Rattle.line_law.specs.declared.call.Act.TheVariants as acts
use Rattle.line_law.specs.declared.call.Entry.{Entry}
use Rattle.line_law.specs.declared.call.Reply.{Reply}
use Rattle.line_law.specs.declared.call.Reply.TheVariants as replies
use Rattle.line_law.specs.declared.state.BoxState.{BoxState}
use Rattle.line_law.specs.Law.{box_plan_of}
use Rattle.line_law.specs.Levers.{starter_way}
use Rattle.line_law.specs.Lines.{plain_line_of}
use Rattle.line_law.specs.States.{LineState, box_at}
use Rattle.line_law.specs.Tracks.{train_on}

-- ---- the trains in a section

-- one where there is a train
abbrev pub count_of : Option ℕ → ℕ
count_of None = 0
count_of (Some train) = 1

-- one where a train stands in the berth
abbrev pub berth_count : Option Berth → BoxState → ℕ
berth_count None advance = 0
berth_count (Some berth) advance = count_of (train_on advance.places berth.place)

-- how many trains a section holds: those on its plain line, and the one in its berth; a left portion stands on the
-- plain line and so counts beside its berth
abbrev pub held_by : PlanFields → LineState → Section → ℕ
held_by plan state section =
    length (plain_line_of state section) + berth_count (section_berth plan section) (box_at state (advance_of section))

-- ---- clean histories

-- an overrun of the starter of the section
abbrev pub is_overrun : PlanFields → Section → Act → Bool
is_overrun plan section (acts.Overrun lever) =
    is_way section.way (starter_way (signal_of (box_plan_of plan section.rear) lever))
is_overrun plan section act = false

-- a train comes into the section's berth in part
abbrev pub is_parting : Section → Act → Bool
is_parting section (acts.BerthPart way) = same_way way section.way
is_parting section act = false

-- the control of the section's line is released
abbrev pub is_releasing : Section → Act → Bool
is_releasing section (acts.Release way) = same_way way section.way
is_releasing section act = false

abbrev pub is_entered : Reply → Bool
is_entered (replies.Entered train k) = true
is_entered reply = false

abbrev pub is_part_berthed : Reply → Bool
is_part_berthed (replies.PartBerthed train j) = true
is_part_berthed reply = false

abbrev pub is_released : Reply → Bool
is_released replies.Released = true
is_released reply = false

-- an entry that makes a history unclean for a section: a train overran its starter into it, came into its berth in
-- part, or its line was released
abbrev pub spoils : PlanFields → Section → Entry → Bool
spoils plan section e =
    ((e.box_no == section.rear) && (is_overrun plan section e.call.act && is_entered e.reply))
    || ((e.box_no == advance_of section)
    && ((is_parting section e.call.act && is_part_berthed e.reply)
    || (is_releasing section e.call.act && is_released e.reply)))

-- a history that is clean for a section
abbrev pub IsClean : PlanFields → Section → List Entry → Type 0
IsClean plan section es = list_any (spoils plan section) es ≡ false
