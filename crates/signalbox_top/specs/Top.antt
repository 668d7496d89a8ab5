-- What `signalbox` puts.
use Rattle.std.specs.Prelude.{◌≡◌, ◌⊎◌, ℕ, Bool, true, false, List, [], ◌∷◌, Option, Some, None, IfSome, if◌then◌else◌}
use Rattle.std.specs.Global.{Vec}
use Rattle.rail_text.specs.Bytes.{appended, TakesPart}
use Rattle.clap.specs.Words.{Text, takes}
use Rattle.line_law.specs.History.{state_of}
use Rattle.line_plan.specs.Plans.{PlanFields}
use Rattle.line_races.specs.Races.{AreRaces}
use Rattle.line_races.specs.declared.finding.Race.{Race}
use Rattle.line_rehearsal.specs.Rehearsals.{IsRehearsal}
use Rattle.line_rehearsal.specs.declared.rehearsal.Rehearsal.{Rehearsal}
use Rattle.line_rehearsal.specs.declared.until.Until.{Until}
use Rattle.line_rehearsal.specs.declared.until.Until.TheVariants as untils
use Rattle.line_report.specs.Journals.{journal_text}
use Rattle.rehearsal_report.specs.CallLines.{NamedText}
use Rattle.rehearsal_report.specs.ReportLines.{has_found, report_lines}
use Rattle.rehearsal_report.specs.Reports.{Reports}
use Rattle.script_text.specs.declared.script.Script.{Script}
use Rattle.serial_working.specs.Rosters.{calls_of_scripts}
use Rattle.text_fetch.specs.FromTexts.{Held, IsGiven}
use Rattle.text_fetch.specs.Runs.{Run, run_told}
use Rattle.explained_texts.specs.Gathered.{AreTextsOf}
use Rattle.signalbox_words.specs.Commands.{Command, Rehearsing, command_of}
use Rattle.signalbox_words.specs.Table.{program}
use Rattle.signalbox_top.specs.Framing.{IsFrameOf}
use Rattle.signalbox_top.specs.Graphing.{IsGraphOf}
use Rattle.signalbox_top.specs.Listing.{IsListOf}
use Rattle.signalbox_top.specs.MarkedJournals.{IsMarkedOf}
use Rattle.signalbox_top.specs.Sheeting.{AreSheetsOf}
use Rattle.signalbox_top.specs.Picturing.{IsPictureOf}
use Rattle.signalbox_top.specs.RowReading.{AreRowsOf}
use Rattle.signalbox_top.specs.Statuses.{status_of}
use Rattle.signalbox_top.specs.Tabling.{IsTableOf}
use Rattle.signalbox_top.specs.WalkedFrames.{IsWalkedOf}
use Rattle.signalbox_top.specs.declared.status.Status.{Status}
use Rattle.signalbox_top.specs.declared.status.Status.TheVariants as statuses
use Rattle.tidy_text.specs.Tidy.{tidy_text}

-- the command that words are, where clap takes them
abbrev pub asked : List Text → Option Command
asked words = if takes program words then command_of words else None

-- the exit status of the program
abbrev pub code_of : Status → ℕ
code_of statuses.Done = 0
code_of statuses.Found = 1
code_of statuses.Failed = 2

-- ---- a rehearsal

-- how far scripts are rehearsed
abbrev pub until_of : Bool → Until
until_of true = untils.Refusal
until_of false = untils.Stop

-- scripts by their names, with their texts
abbrev pub named_texts : List (List ℕ) → List (Vec ℕ) → List NamedText
named_texts [] texts = []
named_texts (name ∷ names) [] = []
named_texts (name ∷ names) (text ∷ texts) = record { name = name; bytes = text.items } ∷ named_texts names texts

-- what is put of a rehearsal: its journal, as it is printed and judged, or its report
abbrev pub IsText : Bool → PlanFields → List Script → List NamedText → Rehearsal → List Race → List ℕ → Type 0
IsText true plan scripts texts rehearsal races text = text ≡ journal_text plan rehearsal.journal.entries
IsText false plan scripts texts rehearsal races text =
    Reports (report_lines plan scripts texts rehearsal races) [] text

-- What comes of scripts that are rehearsed: the journal is legal, the beginning of the serial order, and ends at the
-- first place where no box can go on, or with the first refused call; the races are those of that journal; and the
-- status tells whether something was found.
pub record IsAnswer (to_refusal as_journal : Bool) (plan : PlanFields) (scripts : List Script) (texts : List NamedText)
    (text : List ℕ) (status : Status) : Type 0 where
  pub rehearsal : Rehearsal
  pub rehearsed : IsRehearsal plan (calls_of_scripts scripts) (until_of to_refusal) rehearsal.journal.entries
      rehearsal.made.items
  pub state : rehearsal.line.line ≡ state_of plan rehearsal.journal.entries
  pub races : List Race
  pub are_races : AreRaces plan rehearsal.journal.entries races
  pub is_text : IsText as_journal plan scripts texts rehearsal races text
  pub is_status : status ≡ status_of (has_found scripts rehearsal races)

-- what comes of `rehearse`: of the scripts that the texts spell, as far as the shelf tells these
pub record IsAnswered (held : Held) (wanted : Rehearsing) (text : List ℕ) (status : Status) : Type 0 where
  pub run : Run
  pub given : IsGiven run (run_told held wanted.plan wanted.scripts)
  pub texts : List (Vec ℕ)
  pub fetched : AreTextsOf held wanted.scripts texts
  pub answer : IsAnswer wanted.to_refusal wanted.as_journal run.plan run.scripts (named_texts wanted.scripts texts) text
      status

-- ---- any command

-- what is taken, and the status, where a command is done: of a tidying the text under the name with its form mended;
-- of a rehearsal what comes of it; of a frame its picture, the report on its states, or its locking table, and of such
-- a table its rows; of a journal its graph, the picture of the line, what an instructor marks in it, its sheets, or its
-- records; what is taken of a box worked by hand is told by IsHandWorked, and of a line that is served by IsServedTo
abbrev pub Headline : Held → Option Command → Status → Option (List ℕ) → Option (List ℕ) → Type 0
Headline held None status old new = Unit {0}
Headline held (Some (Command.Tidy file)) status old new =
    IfSome (held file) (λ all. new ≡ appended old (tidy_text all)) × (status ≡ statuses.Done)
Headline held (Some (Command.Rehearse wanted)) status old new =
    (text : List ℕ) × IsAnswered held wanted text status × (new ≡ appended old text)
Headline held (Some (Command.Work wanted)) status old new = status ≡ statuses.Done
Headline held (Some (Command.Frame plan box_name)) status old new =
    (text : List ℕ) × IsFrameOf held plan box_name text × (new ≡ appended old text) × (status ≡ statuses.Done)
Headline held (Some (Command.Graph plan output)) status old new =
    (text : List ℕ) × IsGraphOf held plan output text × (new ≡ appended old text) × (status ≡ statuses.Done)
Headline held (Some (Command.Table html plan box_name)) status old new =
    (text : List ℕ) × IsTableOf held html plan box_name text × (new ≡ appended old text) × (status ≡ statuses.Done)
Headline held (Some (Command.Rows file)) status old new =
    IfSome (held file) (λ all. (lines : List ℕ) × AreRowsOf all lines × (new ≡ appended old lines))
    × (status ≡ statuses.Done)
Headline held (Some (Command.Json csv plan output)) status old new =
    (text : List ℕ) × IsListOf held csv plan output text × (new ≡ appended old text) × (status ≡ statuses.Done)
Headline held (Some (Command.States wanted)) status old new =
    (text : List ℕ) × IsWalkedOf held wanted text × (new ≡ appended old text) × (status ≡ statuses.Done)
Headline held (Some (Command.Mark wanted)) status old new =
    (text : List ℕ) × IsMarkedOf held wanted text status × (new ≡ appended old text)
Headline held (Some (Command.Sheet wanted)) status old new =
    (text : List ℕ) × AreSheetsOf held wanted text × (new ≡ appended old text) × (status ≡ statuses.Done)
Headline held (Some (Command.Picture wanted)) status old new =
    (text : List ℕ) × IsPictureOf held wanted text × (new ≡ appended old text) × (status ≡ statuses.Done)
Headline held (Some (Command.Serve plan)) status old new = status ≡ statuses.Done

-- nothing was taken, or the front part of a text
abbrev pub TakesFront : Option (List ℕ) → Option (List ℕ) → Type 0
TakesFront old new = (new ≡ old) ⊎ ((text : List ℕ) × TakesPart old new text)
