-- What `judge` makes of the texts that its words name.
use Rattle.std.specs.Prelude.{◌≡◌, ◌↔◌, ℕ, zero, suc, List}
use Rattle.line_plan.specs.Plans.{PlanFields}
use Rattle.line_law.specs.declared.call.Entry.{Entry}
use Rattle.line_law.specs.declared.call.Reply.{Reply}
use Rattle.line_law.specs.History.{IsLegal}
use Rattle.line_report.specs.declared.judging.Verdict.TheVariants.{Legal, WrongAt}
use Rattle.line_report.specs.Reading.{journal_of}
use Rattle.line_report.specs.Verdicts.{IsWrongAt, judgement_text, verdict_of}
use Rattle.text_fetch.specs.FromTexts.{Held, FromTexts, Gives, told_then, text_told, plan_told}

-- a plan, and a journal of its line
pub record Case : Type 0 where
  pub plan : PlanFields
  pub entries : List Entry

-- in the order of fetching: the plan, then the journal
abbrev pub case_told : Held → List ℕ → List ℕ → FromTexts Case
case_told held plan_name journal_name =
    told_then (plan_told held plan_name) (λ plan.
    told_then (text_told 2 (journal_of plan) (held journal_name))
    (λ entries. Gives (record { plan = plan; entries = entries })))

-- what is told before text k of a case, from 0, is fetched
abbrev pub case_told_before : Held → List ℕ → ℕ → FromTexts (Unit {0})
case_told_before held plan_name zero = Gives tt
case_told_before held plan_name (suc k) = told_then (plan_told held plan_name) (λ plan. Gives tt)

-- the text that is printed of a case
abbrev pub judgement_of : Case → List ℕ
judgement_of case = judgement_text case.plan case.entries

-- what is printed of the journal and the plan of these names
abbrev pub judgement_told : Held → List ℕ → List ℕ → FromTexts (List ℕ)
judgement_told held plan_name journal_name =
    told_then (case_told held plan_name journal_name) (λ case. Gives (judgement_of case))

-- what a judge finds of a journal is the law's: legal exactly where it is a legal history, else its first entry whose
-- reply isn't the law's
pub record IsLawful (plan : PlanFields) (es : List Entry) : Type 0 where
  pub legal : verdict_of plan es ≡ Legal ↔ IsLegal plan es
  pub wrong : (k : ℕ) (said law : Reply) → verdict_of plan es ≡ WrongAt k said law → IsWrongAt plan es k said law

-- the same of a case that is told
abbrev pub IsJudged : FromTexts Case → Type 0
IsJudged told = (case : Case) → told ≡ Gives case → IsLawful case.plan case.entries
