-- What an account has for each box.
use Rattle.std.proofs.Common.{◌≡◌, ℕ, ◌<◌, List, All, length, get_or, sym, ◌∙◌, subst, arith}
use Rattle.std.proofs.lemmas.List.Elements.{All-get_or}
use Rattle.line_plan.specs.Plans.{PlanFields}
use Rattle.line_law.specs.declared.call.Entry.{Entry}
use Rattle.line_rehearsal.specs.declared.rehearsal.Rehearsal.{Rehearsal}
use Rattle.script_text.specs.Entries.{IsSpelled}
use Rattle.script_text.specs.declared.script.Script.{Script}
use Rattle.serial_working.proofs.LeftOf.{roster-length}
use Rattle.rehearsal_report.specs.Accounts.{IsAccount}
use Rattle.rehearsal_report.specs.CallLines.{NamedText}

-- as many scripts as boxes, and as many texts
pub scripts_there : (plan : PlanFields) (scripts : List Script) (texts : List NamedText) (rehearsal : Rehearsal)
    → IsAccount plan scripts texts rehearsal → length scripts ≡ length plan.boxes
scripts_there plan scripts texts rehearsal h = sym (roster-length scripts rehearsal.made.items) ∙ h.way.left.each

-- there is a text for each box of the plan
pub texts_there : (plan : PlanFields) (scripts : List Script) (texts : List NamedText) (rehearsal : Rehearsal)
    → IsAccount plan scripts texts rehearsal → length texts ≡ length plan.boxes
texts_there plan scripts texts rehearsal h = h.each ∙ scripts_there plan scripts texts rehearsal h

-- the script of an entry has its text
pub entry_there : (plan : PlanFields) (scripts : List Script) (texts : List NamedText) (rehearsal : Rehearsal)
    (es : List Entry) (i : ℕ) (d : Entry) → IsAccount plan scripts texts rehearsal → es ≡ rehearsal.journal.entries
    → i < length es → (get_or es i d).box_no < length texts
entry_there plan scripts texts rehearsal es i d h is lt =
    let spelled : All (IsSpelled plan) es = subst (All (IsSpelled plan)) (sym is) h.spelled in
    let e = All-get_or (IsSpelled plan) es i d lt spelled in
    omega (arith, e.box, texts_there plan scripts texts rehearsal h)

-- the same of a place of the journal
pub entry_within : (plan : PlanFields) (scripts : List Script) (texts : List NamedText) (rehearsal : Rehearsal)
    (es : List Entry) (i : ℕ) (d : Entry) → IsAccount plan scripts texts rehearsal → es ≡ rehearsal.journal.entries
    → i < length rehearsal.journal.entries → (get_or es i d).box_no < length texts
entry_within plan scripts texts rehearsal es i d h is lt =
    entry_there plan scripts texts rehearsal es i d h is (subst (λ (xs : List Entry). i < length xs) (sym is) lt)
