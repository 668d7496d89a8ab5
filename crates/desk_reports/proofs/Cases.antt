-- The plan, and the journal that is judged.
use Rattle.std.proofs.Common.{◌≡◌, ℕ, ◌<◌, ◌≤◌, ◌^◌, ◌==◌, Bool, true, false, cond, List, [], ◌∷◌, Option, Some, None}
use Rattle.std.proofs.Common.{Result, Ok, Err, OnOk, refl, sym, ap, subst, arith, take, ◌+◌}
use Rattle.rail_text.specs.Causes.{Rose}
use Rattle.rail_text.specs.Gives.{◌>>=◌, Fault}
use Rattle.line_plan.specs.Plans.{IsPlan, PlanFields}
use Rattle.line_law.specs.declared.call.Entry.{Entry}
use Rattle.line_report.specs.Reading.{journal_of, most_journal_bytes}
use Rattle.line_report.specs.Verdicts.{judgement_text}
use Rattle.line_report.proofs.JournalTexts.{journal_of-take, spelled_journal}
use Rattle.line_report.proofs.Verdicts.{legal_exactly, wrong_exactly}
use Rattle.reg_audit.specs.Texts.{audited_text}
use Rattle.desk_reports.specs.declared.judging.Report.{Report}
use Rattle.desk_reports.specs.declared.judging.Report.TheVariants.{Judgement, Audit}
use Rattle.desk_reports.specs.Audits.{report_of}
use Rattle.desk_reports.specs.Judgements.{Case, IsJudged, IsLawful, case_told, case_told_before}
use Rattle.text_fetch.specs.FromTexts.{FromTexts, Gives, HasShelfFault, Held, IsGiven, Refuses, Untold}
use Rattle.text_fetch.specs.FromTexts.{plan_told, read_told, text_told, told_then}
use Rattle.text_fetch.proofs.Gathering.{free_then}
use Rattle.text_fetch.proofs.RunInputs.{rose_before}

-- the limit of a journal can be asked of a shelf
pub few_journal_bytes : (version : ℕ) → most_journal_bytes version < 2 ^ 32
few_journal_bytes version = go (version == 1) where
  go : (first : Bool) → cond first 67108864 134217728 < 2 ^ 32
  go true = omega arith
  go false = omega arith

-- ---- what is reported of the journal that a text spells

-- a fetch of one byte more than the limit is enough
pub report_of-take : (report : Report) (plan : PlanFields) (bytes : List ℕ)
    → report_of report plan (take (most_journal_bytes plan.version + 1) bytes) ≡ report_of report plan bytes
report_of-take Judgement plan bytes =
    ap (λ (read : Result (List Entry) Fault). read >>= (λ es. Ok (judgement_text plan es))) (journal_of-take plan bytes)
report_of-take Audit plan bytes =
    ap (λ (read : Result (List Entry) Fault). read >>= (λ es. Ok (audited_text plan es))) (journal_of-take plan bytes)

-- ---- what is found of it is the law's

-- where a thing holds unless there is an error, what follows from it holds unless there is one
pub on_ok : {A E : Type 0} (r : Result A E) (P Q : Type 0) → OnOk r P → (P → Q) → OnOk r Q
on_ok (Ok x) P Q h k = k h
on_ok (Err e) P Q h k = tt

lawful : (plan : PlanFields) (bytes : List ℕ) (es : List Entry) → IsPlan plan → journal_of plan bytes ≡ Ok es
    → IsLawful plan es
lawful plan bytes es is e =
    let asked = (spelled_journal plan bytes es e).asked in
    record {
      legal = legal_exactly plan es is asked;
      wrong = λ k said law found. wrong_exactly plan es k said law is asked found;
    }

of_journal : (plan : PlanFields) (bytes : List ℕ) (read : Result (List Entry) Fault) → IsPlan plan
    → journal_of plan bytes ≡ read
    → IsJudged (told_then (read_told 2 read) (λ entries. Gives (record { plan = plan; entries = entries })))
of_journal plan bytes (Ok es) is e case told =
    let same : record { plan = plan; entries = es } ≡ case = cc in
    subst (λ (c : Case). IsLawful c.plan c.entries) same (lawful plan bytes es is e)
of_journal plan bytes (Err fault) is e case told = absurd cc

of_held : (plan : PlanFields) (o : Option (List ℕ)) → IsPlan plan
    → IsJudged (told_then (text_told 2 (journal_of plan) o)
    (λ entries. Gives (record { plan = plan; entries = entries })))
of_held plan None is case told = absurd cc
of_held plan (Some bytes) is case told = of_journal plan bytes (journal_of plan bytes) is refl case told

of_plan : (t : FromTexts PlanFields) (o : Option (List ℕ)) (plan : PlanFields) → IsPlan plan → IsGiven plan t
    → IsJudged (told_then t (λ plan.
    told_then (text_told 2 (journal_of plan) o) (λ entries. Gives (record { plan = plan; entries = entries }))))
of_plan Untold o plan is given case told = absurd cc
of_plan (Gives p) o plan is given case told =
    of_held p o (subst IsPlan (sym given) is) case told
of_plan (Refuses n fault) o plan is given case told = absurd cc

-- where the plan is given, what is judged of the journal is the law's judgement
pub case_judged : (held : Held) (plan_name journal_name : List ℕ) (plan : PlanFields) → IsPlan plan
    → IsGiven plan (plan_told held plan_name) → IsJudged (case_told held plan_name journal_name)
case_judged held plan_name journal_name plan is given =
    of_plan (plan_told held plan_name) (held journal_name) plan is given

-- ---- a fault of the shelf

abbrev done : FromTexts (Unit {0})
done = Gives tt

-- where the plan is given and the shelf fails at the journal, that is the case's fault of the shelf
pub case_fault : (held : Held) (before mid now : List ℕ → ℕ) (plan_name journal_name : List ℕ) (plan : PlanFields)
    → ((n : List ℕ) → before n ≤ mid n)
    → IsGiven plan (plan_told held plan_name) → Rose (mid journal_name) (now journal_name)
    → HasShelfFault before now (plan_name ∷ journal_name ∷ []) (case_told_before held plan_name)
case_fault held before mid now plan_name journal_name plan later h rose = record {
  place = 1;
  within = omega arith;
  rose = rose_before (before journal_name) (mid journal_name) (now journal_name) (later journal_name) rose;
  free = free_then plan (plan_told held plan_name) (λ fields. done) h tt;
}
