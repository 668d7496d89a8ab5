-- What `audit` makes of the texts that its words name.
use Rattle.std.specs.Prelude.{ℕ, List, Result}
use Rattle.rail_text.specs.Gives.{Fault}
use Rattle.line_plan.specs.Plans.{PlanFields}
use Rattle.line_law.specs.declared.call.Entry.{Entry}
use Rattle.line_report.specs.Hearings.{text_judged}
use Rattle.line_report.specs.Verdicts.{judgement_text}
use Rattle.reg_audit.specs.Texts.{audited_text, text_audited}
use Rattle.text_fetch.specs.FromTexts.{Held, FromTexts, Gives, told_then}
use Rattle.desk_reports.specs.Judgements.{case_told}
use Rattle.desk_reports.specs.declared.judging.Report.{Report}
use Rattle.desk_reports.specs.declared.judging.Report.TheVariants.{Judgement, Audit}

-- what is printed of a journal
abbrev pub report_text : Report → PlanFields → List Entry → List ℕ
report_text Judgement plan es = judgement_text plan es
report_text Audit plan es = audited_text plan es

-- the same of the journal that a text spells, or the first fault
abbrev pub report_of : Report → PlanFields → List ℕ → Result (List ℕ) Fault
report_of Judgement plan bytes = text_judged plan bytes
report_of Audit plan bytes = text_audited plan bytes

-- what is printed of the journal and the plan of these names
abbrev pub report_told : Report → Held → List ℕ → List ℕ → FromTexts (List ℕ)
report_told report held plan_name journal_name =
    told_then (case_told held plan_name journal_name) (λ case. Gives (report_text report case.plan case.entries))

-- the audit of the journal and the plan of these names
abbrev pub audit_told : Held → List ℕ → List ℕ → FromTexts (List ℕ)
audit_told held plan_name journal_name =
    told_then (case_told held plan_name journal_name) (λ case. Gives (audited_text case.plan case.entries))
