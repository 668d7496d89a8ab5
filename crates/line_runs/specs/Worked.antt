-- A line that is worked by its scripts, and the journal that comes of it.
use Rattle.std.specs.Prelude.{◌≡◌, ◌≤◌, ◌<◌, ◌⊎◌, ℕ, List, ◌∷◌, ◌++◌, All, Ok, length, map, slice_index_or}
use Rattle.atomic_table.specs.Seated.{TableId}
use Rattle.line_plan.specs.Plans.{PlanFields}
use Rattle.line_plan.specs.Sections.{IsSection, limit_of}
use Rattle.line_plan.specs.declared.section.Section.{Section}
use Rattle.line_law.specs.declared.call.Act.TheVariants.{Pull}
use Rattle.line_law.specs.declared.call.Entry.{Entry}
use Rattle.line_law.specs.History.{IsLegal, calls_of, state_of}
use Rattle.line_law.specs.Sections.{IsClean, held_by}
use Rattle.line_law.specs.Serial.{calls_left, serial_journal}
use Rattle.line_journal.specs.Order.{IsInOrder}
use Rattle.line_report.specs.Asked.{AreFewEntries}
use Rattle.line_report.specs.Journals.{journal_text}
use Rattle.line_report.specs.Reading.{journal_of, most_journal_bytes}
use Rattle.line_report.specs.Verdicts.{verdict_of}
use Rattle.line_report.specs.declared.judging.Verdict.TheVariants.{Legal}
use Rattle.script_text.specs.Entries.{IsSpelled}
use Rattle.script_text.specs.declared.script.Script.{Script}
use Rattle.signalman_seats.specs.Lines.{AreFresh, Closed}
use Rattle.signalman_seats.specs.Men.{Man}
use Rattle.line_working.specs.Working.{DidWork}
use Rattle.text_fetch.specs.Runs.{Run}
use Rattle.train_laws.specs.MayPull.{IsPullTold}
use Rattle.train_register.specs.Registers.{AreParts, IsPrintable, RegisterFields, register_text}
use Rattle.serial_working.specs.Rosters.{calls_of_scripts}

-- how many calls each script has
abbrev pub lengths_of : List Script → List ℕ
lengths_of scripts = map (λ script. length script.calls) scripts

-- a history has exactly each script's calls, in order
abbrev pub HasCallsOf : List Script → List Entry → Type 0
HasCallsOf scripts es = (b : ℕ) → calls_of b es ≡ calls_left (calls_of_scripts scripts) b

-- the registers of a line that has ended after its scripts were worked: the parts of one legal history, which has
-- exactly each script's calls, in order
pub record AreWorked (plan : PlanFields) (scripts : List Script) (registers : List RegisterFields) : Type 0 where
  pub history : List Entry
  pub legal : IsLegal plan history
  pub parts : AreParts plan history registers
  pub calls : HasCallsOf scripts history
  pub few : AreFewEntries history

-- each of these men has worked his script, with so many looks at most for an await
pub record HaveWorked (table_id : TableId) (plan : PlanFields) (scripts : List Script) (looks : ℕ)
    (before after : List Man) : Type 0 where
  pub each : length after ≡ length before
  pub worked : (b : ℕ) (d : Man) (e : Script) → b < length before
      → DidWork table_id plan (slice_index_or scripts b e) looks (slice_index_or before b d) (slice_index_or after b d)

-- The scripts were worked by the men of a line. It opened with a man at each box, who had seen and done nothing; each
-- worked his script with the looks of the plan; and they closed the line, which gave these registers.
pub record AreOfMen (plan : PlanFields) (scripts : List Script) (registers : List RegisterFields) : Type 0 where
  pub table_id : TableId
  pub before : List Man
  pub after : List Man
  pub fresh : AreFresh table_id plan (lengths_of scripts) before
  pub worked : HaveWorked table_id plan scripts plan.looks before after
  pub closed : Closed plan after registers

-- by the men of a line; or where the post of a box was lost as the line opened, one call at a time in the serial order
abbrev pub AreOfMenOrSerial : PlanFields → List Script → List RegisterFields → Type 0
AreOfMenOrSerial plan scripts registers =
    AreOfMen plan scripts registers ⊎ AreParts plan (serial_journal plan (calls_of_scripts scripts)) registers

-- after each prefix of a journal that is clean for a section, the section holds no more trains than it may
abbrev pub HoldsFew : PlanFields → List Entry → Type 0
HoldsFew plan journal = (section : Section) (es more : List Entry) → IsSection plan section → journal ≡ es ++ more
    → IsClean plan section es → held_by plan (state_of plan es) section ≤ limit_of plan section

-- each pull of a journal succeeds exactly where frame, track circuits and instruments allow it at that point, and else
-- its reply says why not
abbrev pub ArePullsTold : PlanFields → List Entry → Type 0
ArePullsTold plan journal = (es more : List Entry) (e : Entry) (lever : ℕ) → journal ≡ es ++ e ∷ more
    → e.call.act ≡ Pull lever → IsPullTold plan (state_of plan es) e.box_no lever e.reply

-- the journal as it is printed, whatever stands behind it, is read as this journal, where it keeps within the limit of
-- a journal's text
abbrev pub IsReadBack : PlanFields → List Entry → Type 0
IsReadBack plan journal = (rest : List ℕ) → length (journal_text plan journal ++ rest) ≤ most_journal_bytes plan.version
    → journal_of plan (journal_text plan journal ++ rest) ≡ Ok journal

-- The journal is one legal history, which has exactly each script's calls, in order, and stands in the order of its own
-- parts; each pull succeeds exactly where it is allowed; and while it records no overrun, left portion or release in a
-- section, that section holds no more trains than it may. What is printed of it is read back, and a judge finds it
-- legal.
pub record IsJournalOf (run : Run) (journal : List Entry) : Type 0 where
  pub legal : IsLegal run.plan journal
  pub calls : HasCallsOf run.scripts journal
  pub order : IsInOrder run.plan journal
  pub pulls : ArePullsTold run.plan journal
  pub trains : HoldsFew run.plan journal
  pub read : IsReadBack run.plan journal
  pub judged : verdict_of run.plan journal ≡ Legal

-- a legal journal can be printed, and so can the registers with its parts
pub record CanBePrinted (plan : PlanFields) (entries : List Entry) (registers : List RegisterFields) : Type 0 where
  pub legal : IsLegal plan entries
  pub few : AreFewEntries entries
  pub spelled : All (IsSpelled plan) entries
  pub parts : AreParts plan entries registers
  pub printable : All (IsPrintable plan) registers

-- a legal journal can be printed, and the registers with its parts have these texts
pub record HasTexts (plan : PlanFields) (entries : List Entry) (texts : List (List ℕ)) : Type 0 where
  pub registers : List RegisterFields
  pub printed : CanBePrinted plan entries registers
  pub same : texts ≡ map (λ register. register_text plan register.box_no register.entries) registers

-- a line was worked and has ended: its journal is one of this run, and it can be printed with its registers
pub record IsWorkedLine (run : Run) (entries : List Entry) (registers : List RegisterFields) : Type 0 where
  pub journal : IsJournalOf run entries
  pub printed : CanBePrinted run.plan entries registers
