-- What a judge has heard of the journal that a text spells.
use Rattle.std.proofs.Common.{◌≡◌, ℕ, List, Ok, sym, ap, subst, ◌∙◌, arith}
use Rattle.line_plan.specs.Plans.{IsPlan, PlanFields}
use Rattle.line_law.specs.declared.call.Entry.{Entry}
use Rattle.line_law.specs.declared.call.Reply.{Reply}
use Rattle.line_report.specs.Asked.{AreFewEntries}
use Rattle.line_report.specs.Hearings.{text_judged}
use Rattle.line_report.specs.Reading.{journal_of}
use Rattle.line_report.specs.Verdicts.{CanPrint, JudgeFields, found_text, heard_all, opening_judge}
use Rattle.line_report.specs.Verdicts.{verdict_of}
use Rattle.line_report.specs.declared.judging.Verdict.TheVariants.{WrongAt}
use Rattle.line_report.proofs.Heard.{all_heard, heard_box, heard_plan, heard_text}
use Rattle.line_report.proofs.JournalTexts.{few_entries, spelled_journal}
use Rattle.line_report.proofs.Verdicts.{can_print}

-- what he finds can be printed
pub found_prints : (plan : PlanFields) (bytes : List ℕ) (es : List Entry) (judge : JudgeFields) → IsPlan plan
    → journal_of plan bytes ≡ Ok es → judge ≡ heard_all (opening_judge plan) es → (k : ℕ) (said law : Reply)
    → judge.verdict ≡ WrongAt k said law → CanPrint judge.plan judge.box_no said law
found_prints plan bytes es judge is read heard k said law wrong =
    let spells = spelled_journal plan bytes es read in
    let few : AreFewEntries es = omega (arith, few_entries plan bytes es spells) in
    let found : verdict_of plan es ≡ WrongAt k said law =
    sym (all_heard plan es) ∙ sym (ap (λ (j : JudgeFields). j.verdict) heard) ∙ wrong in
    let box = ap (λ (j : JudgeFields). j.box_no) heard ∙ heard_box plan es k said law found in
    subst (λ (p : PlanFields). CanPrint p judge.box_no said law)
    (sym (ap (λ (j : JudgeFields). j.plan) heard ∙ heard_plan plan es))
    (can_print plan es k judge.box_no said law is spells.each spells.asked few found box)

-- and is what is printed of the journal
pub found_is : (plan : PlanFields) (bytes : List ℕ) (es : List Entry) (judge : JudgeFields)
    → journal_of plan bytes ≡ Ok es → judge ≡ heard_all (opening_judge plan) es
    → text_judged plan bytes ≡ Ok (found_text judge)
found_is plan bytes es judge read heard =
    rw (read, heard) (ap Ok (sym (heard_text plan es)))
