-- An audit that goes on entry by entry.
use Rattle.std.specs.Prelude.{◌≡◌, ℕ, ◌+◌, ◌<◌, ◌^◌, List, [], ◌∷◌, ◌++◌, length, Result, Ok, Err}
use Rattle.rail_text.specs.declared.cause.ReadError.{ReadError}
use Rattle.rail_text.specs.declared.cause.ReadError.TheVariants as errors
use Rattle.line_plan.specs.Plans.{PlanFields}
use Rattle.line_law.specs.declared.call.Entry.{Entry}
use Rattle.line_law.specs.declared.ways.ByWay.{ByWay}
use Rattle.line_law.specs.History.{IsLegal, state_of}
use Rattle.line_report.specs.declared.judging.Verdict.TheVariants.{Legal}
use Rattle.line_report.specs.declared.sections.HeldTrains.{HeldTrains}
use Rattle.line_report.specs.Hearings.{HearingFields}
use Rattle.line_report.specs.Reading.{entries_left}
use Rattle.line_report.specs.Verdicts.{heard_all}
use Rattle.reg_audit.specs.declared.marks.SideMarks.{SideMarks}
use Rattle.reg_audit.specs.declared.rule.Breach.{Breach}
use Rattle.reg_audit.specs.Held.{AreHeld}
use Rattle.reg_audit.specs.Marks.{breaches_from, breaches_of}

-- the marks of each box, the trains of each pair of neighbours, how many entries were heard, and their breaches
pub record AuditorFields : Type 0 where
  pub marks : List (ByWay SideMarks)
  pub trains : List (ByWay HeldTrains)
  pub count : ℕ
  pub found : List Breach

-- What an auditor has after these entries of a legal history: whatever comes behind them, its breaches behind those
-- that are found are those of the whole.
pub record HasAudited (plan : PlanFields) (es : List Entry) (auditor : AuditorFields) : Type 0 where
  pub each : length auditor.marks ≡ length plan.boxes
  pub trains : AreHeld plan (state_of plan es) (length es) auditor.trains
  pub count : auditor.count ≡ length es
  pub found : (more : List Entry)
      → auditor.found ++ breaches_from plan (state_of plan es) auditor.marks (auditor.count + 1) more
      ≡ breaches_of plan (es ++ more)

-- the entry comes behind those of a legal history that were audited, which with it is one again
pub record ComesNext (plan : PlanFields) (auditor : AuditorFields) (e : Entry) : Type 0 where
  pub es : List Entry
  pub has : HasAudited plan es auditor
  pub legal : IsLegal plan (es ++ e ∷ [])
  pub few : length es + 1 < 2 ^ 32

-- The judge has heard all entries that were left, and where none is wrong, all were audited; or the first fault is
-- refused. Want of memory is free.
abbrev pub AuditsAll : PlanFields → HearingFields → HearingFields → AuditorFields → Result (Unit {0}) ReadError → Type 0
AuditsAll plan old new auditor (Ok done) =
    (es : List Entry) × (entries_left old.reader ≡ Ok es) × (new.judge ≡ heard_all old.judge es)
    × (new.judge.verdict ≡ Legal → HasAudited plan es auditor)
AuditsAll plan old new auditor (Err (errors.Refused line cause)) =
    entries_left old.reader ≡ Err (record { line = line; cause = cause })
AuditsAll plan old new auditor (Err errors.NoMemory) = Unit {0}
