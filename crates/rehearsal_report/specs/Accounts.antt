-- A rehearsal, with the scripts that were rehearsed and their texts.
use Rattle.std.specs.Prelude.{◌≡◌, ℕ, ◌<◌, List, Some, All, length}
use Rattle.line_plan.specs.Plans.{PlanFields}
use Rattle.line_law.specs.declared.call.Call.{Call}
use Rattle.line_law.specs.History.{entry_of}
use Rattle.line_law.specs.Serial.{calls_left}
use Rattle.line_races.specs.declared.finding.Race.{Race}
use Rattle.line_rehearsal.specs.declared.rehearsal.Rehearsal.{Rehearsal}
use Rattle.line_rehearsal.specs.Rehearsals.{IsUnderWay}
use Rattle.script_text.specs.Entries.{IsSpelled}
use Rattle.script_text.specs.declared.script.Script.{Script}
use Rattle.serial_working.specs.Rosters.{calls_of_scripts, head_of, left_of}
use Rattle.rehearsal_report.specs.CallLines.{NamedText}

-- what each box has left
abbrev pub left_in : List Script → Rehearsal → List (List Call)
left_in scripts rehearsal = left_of (calls_of_scripts scripts) rehearsal.made.items

-- A rehearsal of which all can be told: each script has its text, and the line can spell each entry, and for each box
-- with a call left the entry that this would be next.
pub record IsAccount (plan : PlanFields) (scripts : List Script) (texts : List NamedText) (rehearsal : Rehearsal)
    : Type 0 where
  pub way : IsUnderWay plan scripts rehearsal.made.items rehearsal.line
  pub each : length texts ≡ length scripts
  pub spelled : All (IsSpelled plan) rehearsal.journal.entries
  pub next : (b : ℕ) (call : Call) → head_of (calls_left (left_in scripts rehearsal) b) ≡ Some call
      → IsSpelled plan (entry_of plan rehearsal.line.line b call)

-- both entries of a race are among so many
pub record IsWithin (many : ℕ) (race : Race) : Type 0 where
  pub first : race.first < many
  pub second : race.second < many
