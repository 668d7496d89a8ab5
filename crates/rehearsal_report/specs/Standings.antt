-- How far a rehearsal came, and how each box stands where it ended.
use Rattle.std.specs.Prelude.{ℕ, ◌+◌, ◌==◌, Bool, true, false, List, [], ◌∷◌, ◌++◌, Option, Some, None, codes}
use Rattle.std.specs.Prelude.{decimal, is_some, length, slice_index_or, if◌then◌else◌}
use Rattle.line_plan.specs.Plans.{PlanFields}
use Rattle.line_law.specs.declared.call.Call.{Call}
use Rattle.line_law.specs.Known.{KnowsCall}
use Rattle.line_law.specs.Serial.{calls_left, count_left, first_free}
use Rattle.line_law.specs.States.{LineState}
use Rattle.line_rehearsal.specs.declared.rehearsal.Rehearsal.{Rehearsal}
use Rattle.line_rehearsal.specs.declared.stop.Stop.{Stop}
use Rattle.line_rehearsal.specs.Stops.{stop_of}
use Rattle.script_text.specs.Calls.{call_text}
use Rattle.script_text.specs.Entries.{IsSpelled}
use Rattle.script_text.specs.declared.script.Script.{Script}
use Rattle.serial_working.specs.Rosters.{calls_of_scripts, head_of}
use Rattle.rehearsal_report.specs.declared.standings.Standing.{Standing}
use Rattle.rehearsal_report.specs.declared.standings.Standing.TheVariants.{Done, Stopped, Free}
use Rattle.rehearsal_report.specs.Accounts.{left_in}
use Rattle.rehearsal_report.specs.CallLines.{NamedText, place_text, text_at}
use Rattle.rehearsal_report.specs.Reports.{Told}
use Rattle.rehearsal_report.specs.Reports.Told.{Whole, Row, Said}

-- ---- how far it came

-- words, how many calls of how many are made, and words
abbrev pub counts_text : List ℕ → ℕ → ℕ → List ℕ → List ℕ
counts_text before made all behind = before ++ decimal made ++ codes " of " ++ decimal all ++ behind

-- not all calls are made, and some box may go on or none
abbrev pub part_text : ℕ → ℕ → Bool → List ℕ
part_text made all free =
    if free then counts_text (codes "ended after ") made all (codes " calls, with one that is refused")
    else counts_text (codes "stopped after ") made all (codes " calls")

-- so many calls of so many are made
abbrev pub heading_text : ℕ → ℕ → Bool → List ℕ
heading_text made all free =
    if made == all then codes "made all " ++ decimal all ++ codes " calls" else part_text made all free

-- ---- how each box stands

-- by its next call, what its man waits for, if he is stopped, and how many calls he has made
abbrev pub standing_by : Option Call → Option Stop → ℕ → Standing
standing_by next (Some stop) made = Stopped stop
standing_by None None made = Done
standing_by (Some call) None made = Free call (made + 1)

-- box b, which has made so many calls and has these left
abbrev pub standing_of : PlanFields → LineState → ℕ → ℕ → List Call → Standing
standing_of plan state b made calls = standing_by (head_of calls) (stop_of plan state b made calls) made

-- it may go on
abbrev pub is_free : Standing → Bool
is_free Done = false
is_free (Stopped stop) = false
is_free (Free call number) = true

-- The line can spell what a box that stands so does next: the entry of its await, or its call.
abbrev pub IsKnownStanding : PlanFields → ℕ → Standing → Type 0
IsKnownStanding plan b Done = Unit {0}
IsKnownStanding plan b (Stopped stop) = IsSpelled plan (record { box_no = b; call = stop.call; reply = stop.reply })
IsKnownStanding plan b (Free call number) = KnowsCall plan b call

-- the line of a box with this script
abbrev pub standing_row : PlanFields → NamedText → Standing → Told
standing_row plan text Done = Row text.name (codes "has made all its calls")
standing_row plan text (Stopped stop) = Said (place_text text stop.number) (call_text plan stop.call)
standing_row plan text (Free call number) = Row (place_text text number) (call_text plan call ++ codes " comes next")

-- how box b stands
abbrev pub standing_at : PlanFields → List Script → Rehearsal → ℕ → Standing
standing_at plan scripts rehearsal b =
    standing_of plan rehearsal.line.line b (slice_index_or rehearsal.made.items b 0)
    (calls_left (left_in scripts rehearsal) b)

-- the lines of the boxes from box b on, with these calls left
abbrev pub standing_rows : PlanFields → List NamedText → Rehearsal → ℕ → List (List Call) → List Told
standing_rows plan texts rehearsal b [] = []
standing_rows plan texts rehearsal b (calls ∷ left) =
    standing_row plan (text_at texts b)
    (standing_of plan rehearsal.line.line b (slice_index_or rehearsal.made.items b 0) calls)
    ∷ standing_rows plan texts rehearsal (b + 1) left

-- how many calls are made, and how many there are
abbrev pub made_in : Rehearsal → ℕ
made_in rehearsal = length rehearsal.journal.entries

abbrev pub calls_in : List Script → ℕ
calls_in scripts = count_left (calls_of_scripts scripts)

-- the heading
abbrev pub heading : PlanFields → List Script → Rehearsal → Told
heading plan scripts rehearsal =
    Whole (heading_text (made_in rehearsal) (calls_in scripts)
    (is_some (first_free plan rehearsal.line.line 0 (left_in scripts rehearsal))))

-- the lines of all boxes, where not all calls are made
abbrev pub standing_lines : PlanFields → List Script → List NamedText → Rehearsal → List Told
standing_lines plan scripts texts rehearsal =
    if made_in rehearsal == calls_in scripts then []
    else standing_rows plan texts rehearsal 0 (left_in scripts rehearsal)
