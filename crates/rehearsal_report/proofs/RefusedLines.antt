-- The lines of refused calls, one after another.
use Rattle.std.proofs.Common.{◌≡◌, ℕ, ◌+◌, ◌<◌, ◌≤◌, true, false, cond, List, [], ◌∷◌, length, drop, get_or}
use Rattle.std.proofs.Common.{refl, sym, ap, ◌∙◌, subst, arith}
use Rattle.std.proofs.lemmas.List.{drop_all, drop_more}
use Rattle.line_plan.specs.Plans.{PlanFields}
use Rattle.line_law.specs.declared.call.Entry.{Entry}
use Rattle.line_law.specs.Refusals.{is_refused}
use Rattle.script_text.specs.Calls.{call_text}
use Rattle.rehearsal_report.specs.CallLines.{NamedText, place_text, text_at}
use Rattle.rehearsal_report.specs.Numbers.{AreNumbers}
use Rattle.rehearsal_report.specs.ReportLines.{refused_row, refused_rows}
use Rattle.rehearsal_report.specs.Reports.{Reports, Tells, Told}
use Rattle.rehearsal_report.specs.Reports.Told.{Said}
use Rattle.rehearsal_report.proofs.RaceLines.{number_of}

-- the lines from a place on, by the entry that stands there
refused_next : (plan : PlanFields) (texts : List NamedText) (journal : List Entry) (at : ℕ) (d : Entry)
    → at < length journal
    → refused_rows plan texts journal at (drop at journal)
    ≡ cond (is_refused (get_or journal at d).reply)
    (refused_row plan texts journal at (get_or journal at d)
    ∷ refused_rows plan texts journal (at + 1) (drop (at + 1) journal))
    (refused_rows plan texts journal (at + 1) (drop (at + 1) journal))
refused_next plan texts journal at d lt =
    ap (λ (es : List Entry). refused_rows plan texts journal at es) (drop_more journal at d lt)

-- ---- the same of entries that are those of the journal

-- an entry that isn't refused has no line
pub passed_by : (plan : PlanFields) (texts : List NamedText) (journal es : List Entry) (at : ℕ) (d : Entry)
    → es ≡ journal → at < length es → is_refused (get_or es at d).reply ≡ false
    → refused_rows plan texts journal at (drop at journal)
    ≡ refused_rows plan texts journal (at + 1) (drop (at + 1) journal)
passed_by plan texts journal es at d is lt not_so =
    let here = ap (λ (xs : List Entry). is_refused (get_or xs at d).reply) (sym is) ∙ not_so in
    refused_next plan texts journal at d (subst (λ (xs : List Entry). at < length xs) is lt) ∙ rw here refl

-- one that is refused has one, with these numbers
pub refused_here : (plan : PlanFields) (texts : List NamedText) (journal es : List Entry) (at : ℕ) (d : Entry)
    (numbers : List ℕ) → es ≡ journal → at < length es → AreNumbers journal numbers
    → is_refused (get_or es at d).reply ≡ true
    → refused_rows plan texts journal at (drop at journal)
    ≡ Said (place_text (text_at texts (get_or es at d).box_no) (get_or numbers at 0))
    (call_text plan (get_or es at d).call)
    ∷ refused_rows plan texts journal (at + 1) (drop (at + 1) journal)
refused_here plan texts journal es at d numbers is lt h this =
    let rest = refused_rows plan texts journal (at + 1) (drop (at + 1) journal) in
    let within = subst (λ (xs : List Entry). at < length xs) is lt in
    let e_is = ap (λ (xs : List Entry). get_or xs at d) is in
    let number = number_of journal numbers es at (get_or numbers at 0) d h is within refl in
    let here = ap (λ (e : Entry). is_refused e.reply) (sym e_is) ∙ this in
    let row = ap
    (λ (n : ℕ). Said (place_text (text_at texts (get_or es at d).box_no) n) (call_text plan (get_or es at d).call))
    number
    ∙ ap (λ (e : Entry). refused_row plan texts journal at e) e_is in
    (refused_next plan texts journal at d within ∙ rw here refl)
    ∙ ap (λ (r : Told). r ∷ rest) (sym row)

-- ---- how many there are

-- with one line told, one more is told and one fewer is still to come
pub counted_here : (many : ℕ) (row : Told) (rows rest : List Told) (whole : ℕ) → rows ≡ row ∷ rest
    → many + length rows ≡ whole → (many + 1) + length rest ≡ whole
counted_here many row rows rest whole is so = omega (arith, ap (λ (xs : List Told). length xs) is, so)

pub counted_all : (plan : PlanFields) (texts : List NamedText) (journal : List Entry) (at many whole : ℕ)
    → length journal ≤ at → many + length (refused_rows plan texts journal at (drop at journal)) ≡ whole
    → many ≡ whole
counted_all plan texts journal at many whole le so =
    let none = ap (λ (es : List Entry). length (refused_rows plan texts journal at es)) (drop_all at journal le) in
    omega (arith, none, so)

-- ---- they are put one after another

-- a line told, and those behind it told there, are the lines told in turn
pub reports_here : (row : Told) (rows rest : List Told) (old middle new : List ℕ) → rows ≡ row ∷ rest
    → Tells row old middle → Reports rest middle new → Reports rows old new
reports_here row rows rest old middle new is tells more =
    subst (λ (xs : List Told). Reports xs old new) (sym is) (middle, tells, more)

pub reports_all : (plan : PlanFields) (texts : List NamedText) (journal : List Entry) (at : ℕ) (text : List ℕ)
    → length journal ≤ at → Reports (refused_rows plan texts journal at (drop at journal)) text text
reports_all plan texts journal at text le =
    let none : refused_rows plan texts journal at (drop at journal) ≡ [] =
    ap (λ (es : List Entry). refused_rows plan texts journal at es) (drop_all at journal le) in
    subst (λ (xs : List Told). Reports xs text text) (sym none) refl
