-- Entries that are heard by a judge and then audited.
use Rattle.std.proofs.Common.{◌≡◌, ℕ, ◌<◌, ◌^◌, List, [], ◌∷◌, ◌++◌, length, Ok, sym, ap, ◌∙◌, arith}
use Rattle.std.proofs.lemmas.List.{length-append}
use Rattle.line_plan.specs.Plans.{PlanFields}
use Rattle.line_law.specs.declared.call.Entry.{Entry}
use Rattle.line_law.specs.History.{IsLegal, state_of}
use Rattle.line_law.specs.declared.call.Reply.{Reply}
use Rattle.line_report.specs.declared.judging.Verdict.TheVariants.{Legal, WrongAt}
use Rattle.line_report.specs.Hearings.{HearsEntry}
use Rattle.line_report.specs.Reading.{journal_of}
use Rattle.line_report.specs.Verdicts.{JudgeFields, found_text, heard, heard_all, judgement_text, opening_judge}
use Rattle.line_report.specs.Verdicts.{verdict_of, verdict_text}
use Rattle.line_report.proofs.Heard.{all_heard, heard_count, heard_plan, heard_text}
use Rattle.line_report.proofs.HeardMore.{heard_legal, heard_more, was_legal}
use Rattle.reg_audit.specs.Auditors.{AuditorFields, ComesNext, HasAudited}
use Rattle.reg_audit.specs.Texts.{audit_text, audited_by, text_audited}
use Rattle.reg_audit.proofs.EntryAudited.{audited_all}

-- as long as no entry is wrong: the judge's line stands behind the entries, which are a legal history, and were audited
pub record IsAudited (plan : PlanFields) (es : List Entry) (judge : JudgeFields) (auditor : AuditorFields) : Type 0
  where
    pub state : judge.state ≡ state_of plan es
    pub legal : IsLegal plan es
    pub has : HasAudited plan es auditor

-- the auditor has audited these entries, as long as the judge has found them legal
abbrev pub IsAuditing : PlanFields → List Entry → JudgeFields → AuditorFields → Type 0
IsAuditing plan es judge auditor = judge.verdict ≡ Legal → IsAudited plan es judge auditor

-- before the first entry
pub auditing_none : (plan : PlanFields) (judge : JudgeFields) (auditor : AuditorFields) → judge ≡ opening_judge plan
    → HasAudited plan [] auditor → IsAuditing plan [] judge auditor
auditing_none plan judge auditor opens has legal = record {
  state = ap (λ (j : JudgeFields). j.state) opens;
  legal = tt;
  has = has;
}

-- what is legal behind an entry that the judge has heard
pub legal_next : (plan : PlanFields) (es : List Entry) (old new : JudgeFields) (auditor : AuditorFields) (e : Entry)
    → old ≡ heard_all (opening_judge plan) es → HearsEntry old new e → IsAuditing plan es old auditor
    → new.verdict ≡ Legal → IsLegal plan (es ++ e ∷ []) × (new.state ≡ state_of plan (es ++ e ∷ []))
legal_next plan es old new auditor e is hears audited legal =
    let now : (heard old e).verdict ≡ Legal = sym (ap (λ (j : JudgeFields). j.verdict) hears.after) ∙ legal in
    let before = audited (was_legal old e now) in
    let same : old.plan ≡ plan = ap (λ (j : JudgeFields). j.plan) is ∙ heard_plan plan es in
    let next = heard_legal plan old es e same before.state before.legal hears.may now in
    (next.0, ap (λ (j : JudgeFields). j.state) hears.after ∙ next.1)

-- so it may be audited
pub comes_next : (plan : PlanFields) (es : List Entry) (old new : JudgeFields) (auditor : AuditorFields) (e : Entry)
    → old ≡ heard_all (opening_judge plan) es → HearsEntry old new e → IsAuditing plan es old auditor
    → new.verdict ≡ Legal → new.count < 2 ^ 32 → ComesNext plan auditor e
comes_next plan es old new auditor e is hears audited legal few =
    let now : (heard old e).verdict ≡ Legal = sym (ap (λ (j : JudgeFields). j.verdict) hears.after) ∙ legal in
    let count : new.count ≡ length (es ++ e ∷ []) =
    ap (λ (j : JudgeFields). j.count) (hears.after ∙ ap (λ (j : JudgeFields). heard j e) is
    ∙ sym (heard_more (opening_judge plan) es e)) ∙ heard_count plan (es ++ e ∷ []) in
    record {
      es = es;
      has = (audited (was_legal old e now)).has;
      legal = (legal_next plan es old new auditor e is hears audited legal).0;
      few = omega (arith, few, count, length-append es (e ∷ []));
    }

-- while what is heard is legal, the auditor has audited all that was heard
pub has_audited : (plan : PlanFields) (es : List Entry) (old new : JudgeFields) (auditor : AuditorFields) (e : Entry)
    → HearsEntry old new e → IsAuditing plan es old auditor → new.verdict ≡ Legal → HasAudited plan es auditor
has_audited plan es old new auditor e hears audited legal =
    (audited (was_legal old e (sym (ap (λ (j : JudgeFields). j.verdict) hears.after) ∙ legal))).has

-- and then all are audited
pub auditing_on : (plan : PlanFields) (es : List Entry) (old new : JudgeFields) (before after : AuditorFields)
    (e : Entry) → old ≡ heard_all (opening_judge plan) es → HearsEntry old new e → IsAuditing plan es old before
    → (IsLegal plan (es ++ e ∷ []) → HasAudited plan (es ++ e ∷ []) after) → IsAuditing plan (es ++ e ∷ []) new after
auditing_on plan es old new before after e is hears audited on legal =
    let next = legal_next plan es old new before e is hears audited legal in
    record { state = next.1; legal = next.0; has = on next.0 }

-- ---- what is printed

-- of a journal that is found legal its breaches
pub audit_is : (plan : PlanFields) (bytes : List ℕ) (es : List Entry) (judge : JudgeFields) (auditor : AuditorFields)
    → journal_of plan bytes ≡ Ok es → judge ≡ heard_all (opening_judge plan) es → judge.verdict ≡ Legal
    → (judge.verdict ≡ Legal → HasAudited plan es auditor)
    → text_audited plan bytes ≡ Ok (audit_text auditor.found)
audit_is plan bytes es judge auditor read heard legal audited =
    let found : verdict_of plan es ≡ Legal =
    sym (all_heard plan es) ∙ sym (ap (λ (j : JudgeFields). j.verdict) heard) ∙ legal in
    let breaches = audited_all plan es auditor (audited legal) in
    rw read (ap Ok (ap (audited_by plan es) found ∙ ap audit_text (sym breaches)))

-- of a wrong one what the judge finds
pub verdict_is : (plan : PlanFields) (bytes : List ℕ) (es : List Entry) (judge : JudgeFields) (k : ℕ) (said law : Reply)
    → journal_of plan bytes ≡ Ok es → judge ≡ heard_all (opening_judge plan) es → judge.verdict ≡ WrongAt k said law
    → text_audited plan bytes ≡ Ok (found_text judge)
unfolding judgement_text
verdict_is plan bytes es judge k said law read heard wrong =
    let found : verdict_of plan es ≡ WrongAt k said law =
    sym (all_heard plan es) ∙ sym (ap (λ (j : JudgeFields). j.verdict) heard) ∙ wrong in
    rw read (ap Ok (ap (audited_by plan es) found ∙ sym (ap (verdict_text plan es) found)
    ∙ sym (heard_text plan es) ∙ ap found_text (sym heard)))
