-- What comes of a command, by the texts that it names.
use Rattle.std.specs.Prelude.{◌≡◌, ℕ, List, Option, Some, None, All}
use Rattle.rail_text.specs.Causes.{Rose}
use Rattle.command_words.specs.Commands.{Command, texts_of}
use Rattle.text_fetch.specs.FromTexts.{Held, FromTexts, Gives, told_then}
use Rattle.text_fetch.specs.Runs.{Run, run_told, run_told_before}
use Rattle.desk_reports.specs.Audits.{audit_told}
use Rattle.desk_reports.specs.Charts.{plan_chart_told}
use Rattle.desk_reports.specs.Frames.{plan_frame_told}
use Rattle.desk_reports.specs.Judgements.{IsJudged, case_told, case_told_before, judgement_told}
use Rattle.desk_reports.specs.Reports.{findings_told, upgrade_told}
use Rattle.desk_reports.specs.SingleLines.{HasTokenScript, token_script_told, tokens_told}
use Rattle.line_runs.specs.Made.{IsSummaryOf}
use Rattle.line_runs.specs.Outputs.{IsOutputOf}
use Rattle.line_runs.specs.Watched.{IsWatchOf}

-- what a command is to print: exactly this text; the output of a run; the summary of the made line of n trains; or the
-- output of a run that is watched in so many rounds, with the board
pub data Print : Type 0 where
  Exactly : List ℕ → Print
  OutputOf : Run → Print
  SummaryOf : ℕ → Print
  WatchOf : ℕ → Run → Print

-- a text is what is to be printed: of a line that is worked, that of one of its journals
abbrev pub IsPrintOf : Print → List ℕ → Type 0
IsPrintOf (Exactly bytes) text = text ≡ bytes
IsPrintOf (OutputOf run) text = IsOutputOf run text
IsPrintOf (SummaryOf n) text = IsSummaryOf n text
IsPrintOf (WatchOf n run) text = IsWatchOf n run text

-- exactly the text that is told is to be printed
abbrev pub told_exactly : FromTexts (List ℕ) → FromTexts Print
told_exactly told = told_then told (λ text. Gives (Exactly text))

-- what is printed of a command, or the refusal that comes first in the order of fetching
abbrev pub command_told : Held → Command → FromTexts Print
command_told held (Command.Run plan scripts) = told_then (run_told held plan scripts) (λ run. Gives (OutputOf run))
command_told held (Command.Stress n) = Gives (SummaryOf n)
command_told held (Command.Check plan) = told_exactly (findings_told held plan)
command_told held (Command.Tables plan name) = told_exactly (plan_frame_told held plan name)
command_told held (Command.Chart plan name) = told_exactly (plan_chart_told held plan name)
command_told held (Command.Judge plan journal) = told_exactly (judgement_told held plan journal)
command_told held (Command.Audit plan journal) = told_exactly (audit_told held plan journal)
command_told held (Command.Upgrade plan) = told_exactly (upgrade_told held plan)
command_told held (Command.Token script) = told_exactly (tokens_told held script)
command_told held (Command.Watch n plan scripts) = told_then (run_told held plan scripts) (λ run. Gives (WatchOf n run))

-- What is told of a command of the desk is sound: the verdict on a case is the law's, and the calls of a token script
-- may be made. Of the other commands nothing more has to be said.
abbrev pub IsSound : Held → Command → Type 0
IsSound held (Command.Judge plan journal) = IsJudged (case_told held plan journal)
IsSound held (Command.Audit plan journal) = IsJudged (case_told held plan journal)
IsSound held (Command.Token script) = HasTokenScript (token_script_told held script)
IsSound held command = Unit {0}

-- what is told before text k of a command, from 0, is fetched
abbrev pub told_before : Held → Command → ℕ → FromTexts (Unit {0})
told_before held (Command.Run plan scripts) = run_told_before held plan scripts
told_before held (Command.Watch n plan scripts) = run_told_before held plan scripts
told_before held (Command.Judge plan journal) = case_told_before held plan
told_before held (Command.Audit plan journal) = case_told_before held plan
told_before held command = λ k. Gives tt

-- the count of no text that the words name rose
abbrev pub NoneRose : (List ℕ → ℕ) → (List ℕ → ℕ) → Option Command → Type 0
NoneRose before now None = Unit {0}
NoneRose before now (Some command) = All (λ name. ¬ Rose (before name) (now name)) (texts_of command)
