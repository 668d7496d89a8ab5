-- What is printed where a command is done.
use Rattle.std.specs.Prelude.{◌≡◌, ◌↔◌, ◌<◌, ◌≤◌, ℕ, List, [], ◌∷◌, Option, Some, None, Ok, length}
use Rattle.rail_text.specs.Bytes.{appended}
use Rattle.line_plan.specs.Plans.{PlanFields, box_at, box_name}
use Rattle.frame_chart.specs.declared.charts.Chart.{Chart}
use Rattle.frame_chart.specs.Charts.{IsChartOf}
use Rattle.frame_chart.specs.Printing.{bridles_of, chart_text}
use Rattle.frame_chart.specs.Spans.{spans_of}
use Rattle.plan_text.specs.Printing.{plan_text}
use Rattle.plan_draft.specs.Reading.{plan_of}
use Rattle.line_plan.specs.Upgrades.{upgraded}
use Rattle.line_law.specs.declared.call.Entry.{Entry}
use Rattle.line_law.specs.declared.call.Reply.{Reply}
use Rattle.line_law.specs.History.{IsLegal}
use Rattle.line_maker.specs.MadeCalls.{made_scripts}
use Rattle.line_maker.specs.MadeTexts.{made_plan_text}
use Rattle.line_report.specs.Reading.{journal_of, most_journal_bytes}
use Rattle.line_report.specs.Verdicts.{IsWrongAt, box_of_entry, judgement_text, legal_text, wrong_text}
use Rattle.reg_audit.specs.declared.rule.Breach.{Breach}
use Rattle.reg_audit.specs.Audits.{IsAuditOf}
use Rattle.reg_audit.specs.Texts.{audit_text}
use Rattle.plan_check.specs.declared.finding.Finding.{Finding}
use Rattle.plan_check.specs.Texts.{findings_text}
use Rattle.plan_check.specs.FindingFacts.{AreFindings}
use Rattle.command_words.specs.Commands.{Command}
use Rattle.desk_reports.specs.Frames.{frame_text}
use Rattle.desk_reports.specs.Judgements.{Case, case_told}
use Rattle.desk_reports.specs.SingleLines.{token_script_told}
use Rattle.line_runs.specs.Made.{summary_text}
use Rattle.line_runs.specs.Outputs.{output_text}
use Rattle.line_runs.specs.Watched.{watch_text}
use Rattle.line_runs.specs.Worked.{IsJournalOf}
use Rattle.line_watch.specs.declared.sight.Sight.{Sight}
use Rattle.line_watch.specs.Shown.{IsBoardOf}
use Rattle.text_fetch.specs.Runs.{Run, run_told}
use Rattle.text_fetch.specs.FromTexts.{AreTold, Held, Gives, plan_told}
use Rattle.token_law.specs.declared.calls.TokenEntry.{TokenEntry}
use Rattle.token_law.specs.History.{IsTokenHistory, token_calls, token_state_of}
use Rattle.token_text.specs.Outputs.{token_history_text}
use Rattle.token_text.specs.Scripts.{TokenScriptFields}

-- ---- a line that is worked

-- the texts of these names spell a plan and its scripts, and the bytes taken are the whole output of a journal of their
-- run; where this keeps within the limit of a journal's text, it is read as exactly that journal
pub record PrintsJournal (held : Held) (plan : List ℕ) (scripts : List (List ℕ)) (old new : Option (List ℕ))
    : Type 0 where
  pub run : Run
  pub spelled : run_told held plan scripts ≡ Gives run
  pub journal : List Entry
  pub is : IsJournalOf run journal
  pub taken : new ≡ appended old (output_text run.plan journal)
  pub read : length (output_text run.plan journal) ≤ most_journal_bytes run.plan.version
      → journal_of run.plan (output_text run.plan journal) ≡ Ok journal

-- The texts of these names spell a plan and its scripts, and the bytes taken are the whole output of a journal of their
-- run, and then a board of so many rounds that shows this journal: each sight is right after some beginning of it, for
-- each section the shortest such beginnings never get shorter from round to round, and the last round is right after
-- the whole of it. Where all this keeps within the limit of a journal's text, it is read as exactly that journal.
pub record PrintsBoard (n : ℕ) (held : Held) (plan : List ℕ) (scripts : List (List ℕ)) (old new : Option (List ℕ))
    : Type 0 where
  pub run : Run
  pub spelled : run_told held plan scripts ≡ Gives run
  pub journal : List Entry
  pub is : IsJournalOf run journal
  pub rounds : List (List Sight)
  pub count : length rounds ≡ n
  pub board : IsBoardOf run.plan journal rounds
  pub taken : new ≡ appended old (watch_text run.plan journal rounds)
  pub read : length (watch_text run.plan journal rounds) ≤ most_journal_bytes run.plan.version
      → journal_of run.plan (watch_text run.plan journal rounds) ≡ Ok journal

-- the text of the made line of n trains spells a plan, and the bytes taken are the summary of a journal of that line,
-- worked by its own scripts
pub record PrintsSummary (n : ℕ) (old new : Option (List ℕ)) : Type 0 where
  pub plan : PlanFields
  pub spelled : plan_of (made_plan_text n) ≡ Ok plan
  pub journal : List Entry
  pub is : IsJournalOf (record { plan = plan; scripts = made_scripts n }) journal
  pub taken : new ≡ appended old (summary_text n plan journal)

-- The words are a command; where they are those of `run`, and the shelf tells all their texts, these spell a run, whose
-- output is what was taken; where they are those of `watch`, its output and a board of so many rounds; where they are
-- those of `stress`, the summary of the made line is what was taken.
abbrev pub Headline : Held → Option Command → Option (List ℕ) → Option (List ℕ) → Type 0
Headline held None old new = ⊥
Headline held (Some (Command.Run plan scripts)) old new = AreTold held (plan ∷ scripts)
    → PrintsJournal held plan scripts old new
Headline held (Some (Command.Stress n)) old new = PrintsSummary n old new
Headline held (Some (Command.Watch n plan scripts)) old new = AreTold held (plan ∷ scripts)
    → PrintsBoard n held plan scripts old new
Headline held (Some command) old new = Unit {0}

-- ---- a check

-- the text of this name spells a plan, and the bytes taken are the findings on it
pub record PrintsFindings (held : Held) (name : List ℕ) (old new : Option (List ℕ)) : Type 0 where
  pub plan : PlanFields
  pub spelled : plan_told held name ≡ Gives plan
  pub findings : List Finding
  pub exact : AreFindings plan findings
  pub taken : new ≡ appended old (findings_text plan findings)

-- ---- a frame

-- the text of the plan's name spells a plan that has a box of the other name, and the bytes taken are the frame of that
-- box
pub record PrintsFrame (held : Held) (plan_name name : List ℕ) (old new : Option (List ℕ)) : Type 0 where
  pub plan : PlanFields
  pub spelled : plan_told held plan_name ≡ Gives plan
  pub box_no : ℕ
  pub within : box_no < length plan.boxes
  pub named : box_name plan box_no ≡ name
  pub taken : new ≡ appended old (frame_text (box_at plan.boxes box_no))

-- ---- a chart

-- the text of the plan's name spells a plan that has a box of the other name, the chart is one of that box's bridles,
-- shown and with the fewest channels, and the bytes taken are its text
pub record PrintsChart (held : Held) (plan_name name : List ℕ) (old new : Option (List ℕ)) : Type 0 where
  pub plan : PlanFields
  pub spelled : plan_told held plan_name ≡ Gives plan
  pub box_no : ℕ
  pub within : box_no < length plan.boxes
  pub named : box_name plan box_no ≡ name
  pub chart : Chart
  pub is : IsChartOf (spans_of (bridles_of (box_at plan.boxes box_no))) chart
  pub taken : new ≡ appended old
      (chart_text (box_at plan.boxes box_no) (bridles_of (box_at plan.boxes box_no)) chart)

-- ---- a judgement

-- the lines of the first entry whose reply isn't the law's: its number, what the journal says there, and what the law
-- says
pub record IsWrongText (case : Case) (text : List ℕ) : Type 0 where
  pub line : ℕ
  pub said : Reply
  pub law : Reply
  pub is : IsWrongAt case.plan case.entries line said law
  pub printed : text ≡ wrong_text case.plan (box_of_entry case.entries line) line said law

-- The text is what a judge prints of a journal: `legal` and the number of its entries exactly where it is a legal
-- history, else the lines of the first entry whose reply isn't the law's.
pub record IsJudgementOf (case : Case) (text : List ℕ) : Type 0 where
  pub printed : text ≡ judgement_text case.plan case.entries
  pub legal : text ≡ legal_text (length case.entries) ↔ IsLegal case.plan case.entries
  pub wrong : ¬ IsLegal case.plan case.entries → IsWrongText case text

-- ---- an audit

-- The text is the breaches of a journal: each entry that breaks one of the nine rules is named with the rule, and
-- nothing else is; by entry, then by rule, once each.
pub record NamesBreaches (case : Case) (text : List ℕ) : Type 0 where
  pub breaches : List Breach
  pub is : IsAuditOf case.plan case.entries breaches
  pub printed : text ≡ audit_text breaches

-- the text is what an audit prints of a journal: its breaches where it is a legal history, else the lines of the first
-- entry whose reply isn't the law's
pub record IsAuditTextOf (case : Case) (text : List ℕ) : Type 0 where
  pub legal : IsLegal case.plan case.entries → NamesBreaches case text
  pub wrong : ¬ IsLegal case.plan case.entries → IsWrongText case text

-- the texts of these names spell a plan and a journal of its line, and the bytes taken are what is found of it
pub record PrintsCase (IsFound : Case → List ℕ → Type 0) (held : Held) (plan journal : List ℕ)
    (old new : Option (List ℕ)) : Type 0 where
  pub case : Case
  pub spelled : case_told held plan journal ≡ Gives case
  pub text : List ℕ
  pub is : IsFound case text
  pub taken : new ≡ appended old text

-- ---- an upgrade

-- the text of this name spells a plan, and the bytes taken are its upgrade as plans are printed, which is read as that
-- upgrade
pub record PrintsUpgrade (held : Held) (name : List ℕ) (old new : Option (List ℕ)) : Type 0 where
  pub plan : PlanFields
  pub spelled : plan_told held name ≡ Gives plan
  pub read : plan_of (plan_text (upgraded plan)) ≡ Ok (upgraded plan)
  pub taken : new ≡ appended old (plan_text (upgraded plan))

-- ---- a single line with tokens

-- The text of this name spells a token script, and the bytes taken are the output of a legal token history of a line
-- that opens with the script's tokens, which has exactly the script's calls, in order: each with the law's reply, and
-- then the tokens in both instruments, and whether one is out, after the last.
pub record PrintsTokens (held : Held) (name : List ℕ) (old new : Option (List ℕ)) : Type 0 where
  pub script : TokenScriptFields
  pub spelled : token_script_told held name ≡ Gives script
  pub entries : List TokenEntry
  pub legal : IsTokenHistory script.at_0 script.at_1 entries
  pub calls : token_calls entries ≡ script.calls
  pub taken : new
      ≡ appended old (token_history_text entries (token_state_of script.at_0 script.at_1 entries))

-- ---- the desk

-- The words are a command; where they are one of the desk's, and the shelf tells its texts, these spell what the
-- command needs, and what it prints of them is what was taken.
abbrev pub Reported : Held → Option Command → Option (List ℕ) → Option (List ℕ) → Type 0
Reported held None old new = ⊥
Reported held (Some (Command.Check plan)) old new = AreTold held (plan ∷ []) → PrintsFindings held plan old new
Reported held (Some (Command.Tables plan name)) old new = AreTold held (plan ∷ []) → PrintsFrame held plan name old new
Reported held (Some (Command.Chart plan name)) old new = AreTold held (plan ∷ []) → PrintsChart held plan name old new
Reported held (Some (Command.Judge plan journal)) old new = AreTold held (plan ∷ journal ∷ [])
    → PrintsCase IsJudgementOf held plan journal old new
Reported held (Some (Command.Audit plan journal)) old new = AreTold held (plan ∷ journal ∷ [])
    → PrintsCase IsAuditTextOf held plan journal old new
Reported held (Some (Command.Upgrade plan)) old new = AreTold held (plan ∷ []) → PrintsUpgrade held plan old new
Reported held (Some (Command.Token script)) old new = AreTold held (script ∷ []) → PrintsTokens held script old new
Reported held (Some command) old new = Unit {0}
