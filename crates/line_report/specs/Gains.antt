-- By which entries a section gains a train, and by which it loses one: a call and its reply tell it.
use Rattle.std.specs.Prelude.{ℕ, ◌+◌, ◌-◌, ◌==◌, Bool, true, false, ◌&&◌, ◌||◌, Option, Some, None, max}
use Rattle.line_plan.specs.Frames.{begins, is_way, same_way, signal_of}
use Rattle.line_plan.specs.Plans.{PlanFields}
use Rattle.line_plan.specs.Sections.{advance_of, section_berth}
use Rattle.line_plan.specs.declared.berth.Berth.{Berth}
use Rattle.line_plan.specs.declared.section.Section.{Section}
use Rattle.line_plan.specs.declared.signal.Signal.{Signal}
use Rattle.line_law.specs.declared.call.Act.{Act}
use Rattle.line_law.specs.declared.call.Act.TheVariants as acts
use Rattle.line_law.specs.declared.call.Entry.{Entry}
use Rattle.line_law.specs.declared.call.Reply.{Reply}
use Rattle.line_law.specs.declared.call.Reply.TheVariants as replies
use Rattle.line_law.specs.Law.{box_plan_of}
use Rattle.line_law.specs.Levers.{starter_way}
use Rattle.line_law.specs.Sections.{is_entered, is_part_berthed, is_parting}
use Rattle.line_report.specs.declared.sections.HeldTrains.{HeldTrains}
use Rattle.train_laws.specs.Authorities.{count_if}

-- ---- past the starter, into the section

-- the lever works the section's starter
abbrev pub works_starter : PlanFields → Section → ℕ → Bool
works_starter plan section lever =
    is_way section.way (starter_way (signal_of (box_plan_of plan section.rear) lever))

-- a train is to go past the section's starter, with its arm off or at danger
abbrev pub is_entering : PlanFields → Section → Act → Bool
is_entering plan section (acts.Pass lever) = works_starter plan section lever
is_entering plan section (acts.Overrun lever) = works_starter plan section lever
is_entering plan section act = false

-- ---- out of the section

-- the berth, if there is one, is where the signal begins
abbrev pub is_home : Option Berth → Option Signal → Bool
is_home None signal = false
is_home (Some berth) signal = begins berth.place signal

-- the lever works a home of the section's berth
abbrev pub works_home : PlanFields → Section → ℕ → Bool
works_home plan section lever =
    is_home (section_berth plan section) (signal_of (box_plan_of plan (advance_of section)) lever)

-- a train is to go past a home of the section's berth, with its arm off or at danger
abbrev pub is_leaving : PlanFields → Section → Act → Bool
is_leaving plan section (acts.Pass lever) = works_home plan section lever
is_leaving plan section (acts.Overrun lever) = works_home plan section lever
is_leaving plan section act = false

-- the train went past the signal, within its box, away, or into a section
abbrev pub has_passed : Reply → Bool
has_passed (replies.Passed train) = true
has_passed (replies.Entered train k) = true
has_passed reply = false

-- the portion left on the section's plain line is to be cleared away
abbrev pub is_clearing : Section → Act → Bool
is_clearing section (acts.ClearPortion way) = same_way way section.way
is_clearing section act = false

abbrev pub is_cleared : Reply → Bool
is_cleared (replies.Cleared train j) = true
is_cleared reply = false

-- ---- an entry

-- the section gains a train by an entry of its rear box: one enters past its starter
abbrev pub gains_at_rear : PlanFields → Section → Act → Reply → Bool
gains_at_rear plan section act reply = is_entering plan section act && is_entered reply

-- it gains one by an entry of its box in advance: a train comes into its berth in part, and counts there and on its
-- plain line
abbrev pub gains_in_advance : Section → Act → Reply → Bool
gains_in_advance section act reply = is_parting section act && is_part_berthed reply

-- it loses one by an entry of its box in advance: a left portion is cleared away, or a train goes out of its berth
abbrev pub loses_in_advance : PlanFields → Section → Act → Reply → Bool
loses_in_advance plan section act reply =
    (is_clearing section act && is_cleared reply) || (is_leaving plan section act && has_passed reply)

-- the section gains a train by an entry
abbrev pub gains : PlanFields → Section → Entry → Bool
gains plan section e =
    ((e.box_no == section.rear) && gains_at_rear plan section e.call.act e.reply)
    || ((e.box_no == advance_of section) && gains_in_advance section e.call.act e.reply)

-- the section loses a train by an entry
abbrev pub loses : PlanFields → Section → Entry → Bool
loses plan section e = (e.box_no == advance_of section) && loses_in_advance plan section e.call.act e.reply

-- a reply that may tell of a train more or less in a section
abbrev pub counts_trains : Reply → Bool
counts_trains (replies.Entered train k) = true
counts_trains (replies.PartBerthed train j) = true
counts_trains (replies.Cleared train j) = true
counts_trains (replies.Passed train) = true
counts_trains reply = false

-- ---- counted entry by entry

-- how many trains the section holds after an entry, by how many it held before
abbrev pub held_after : PlanFields → Section → Entry → ℕ → ℕ
held_after plan section e held = held + count_if (gains plan section e) - count_if (loses plan section e)

-- the section's trains after an entry, and the most so far
abbrev pub count_after : PlanFields → Section → Entry → HeldTrains → HeldTrains
count_after plan section e trains =
    record {
      now = held_after plan section e trains.now;
      most = max trains.most (held_after plan section e trains.now);
    }
