-- The lines of races.
use Rattle.std.proofs.Common.{◌≡◌, ℕ, ◌+◌, ◌<◌, List, [], ◌∷◌, ◌++◌, length, map, take, get_or, slice_get, codes}
use Rattle.std.proofs.Common.{refl, sym, ap, ◌∙◌, subst, append_assoc}
use Rattle.std.proofs.lemmas.List.{map_more}
use Rattle.std.proofs.lemmas.Option.{slice_get-get_or}
use Rattle.line_plan.specs.Plans.{PlanFields}
use Rattle.line_law.specs.declared.call.Entry.{Entry}
use Rattle.line_races.specs.declared.finding.Race.{Race}
use Rattle.rehearsal_report.specs.Accounts.{IsWithin}
use Rattle.rehearsal_report.specs.CallLines.{NamedText}
use Rattle.rehearsal_report.specs.Numbers.{AreNumbers, number_at}
use Rattle.rehearsal_report.specs.ReportLines.{act_at, race_line, race_text}
use Rattle.rehearsal_report.specs.Reports.{IsSentence, Reports, Tells, Told}
use Rattle.rehearsal_report.proofs.Reported.{because_put, reports_one, reports_then}

-- the number of the entry at a place
pub number_of : (journal : List Entry) (numbers : List ℕ) (es : List Entry) (i n : ℕ) (d : Entry)
    → AreNumbers journal numbers → es ≡ journal → i < length journal → n ≡ get_or numbers i 0
    → n ≡ number_at journal (get_or es i d).box_no i
number_of journal numbers es i n d h is lt read =
    read ∙ h.at i (get_or journal i d) (slice_get-get_or journal i d lt)
    ∙ ap (λ (xs : List Entry). number_at journal (get_or xs i d).box_no i) (sym is)

-- what is put of a race before its sentence is what its line begins with
begins_so : (plan : PlanFields) (texts : List NamedText) (journal es : List Entry) (race : Race) (d : Entry)
    (first_number second_number : ℕ) → es ≡ journal → IsWithin (length journal) race
    → first_number ≡ number_at journal (get_or es race.first d).box_no race.first
    → second_number ≡ number_at journal (get_or es race.second d).box_no race.second
    → race_text plan texts journal race (slice_get journal race.first) (slice_get journal race.second)
    ≡ act_at plan texts (get_or es race.second d) second_number ++ codes " and "
    ++ act_at plan texts (get_or es race.first d) first_number ++ codes ": "
begins_so plan texts journal es race d first_number second_number is within h k =
    subst
    (λ (xs : List Entry).
    (m n : ℕ) → m ≡ number_at journal (get_or xs race.first d).box_no race.first
    → n ≡ number_at journal (get_or xs race.second d).box_no race.second
    → race_text plan texts journal race (slice_get journal race.first) (slice_get journal race.second)
    ≡ act_at plan texts (get_or xs race.second d) n ++ codes " and " ++ act_at plan texts (get_or xs race.first d) m
    ++ codes ": ")
    (sym is)
    (λ m n a b.
    rw (
      a,
      b,
      slice_get-get_or journal race.first d within.first,
      slice_get-get_or journal race.second d within.second,
    ) refl)
    first_number second_number h k

-- the line of a race names the call of its second entry, then that of its first, and ends with a sentence
pub race_put : (plan : PlanFields) (texts : List NamedText) (journal es : List Entry) (race : Race) (d : Entry)
    (first_number second_number : ℕ) (sentence old middle new : List ℕ) → es ≡ journal
    → IsWithin (length journal) race
    → first_number ≡ number_at journal (get_or es race.first d).box_no race.first
    → second_number ≡ number_at journal (get_or es race.second d).box_no race.second → IsSentence sentence
    → middle
    ≡ old ++ act_at plan texts (get_or es race.second d) second_number ++ codes " and "
    ++ act_at plan texts (get_or es race.first d) first_number ++ codes ": "
    → new ≡ middle ++ sentence ++ 10 ∷ [] → Tells (race_line plan texts journal race) old new
race_put plan texts journal es race d first_number second_number sentence old middle new is within h k says e f =
    because_put
    (race_text plan texts journal race (slice_get journal race.first) (slice_get journal race.second)) sentence old
    middle new says
    (e
    ∙ rw (begins_so plan texts journal es race d first_number second_number is within h k) (simp append_assoc)) f

-- one race more
pub races_more : (f : Race → Told) (races : List Race) (i : ℕ) (d : Race) (old middle new : List ℕ)
    → i < length races → Reports (map f (take i races)) old middle → Tells (f (get_or races i d)) middle new
    → Reports (map f (take (i + 1) races)) old new
races_more f races i d old middle new lt h k =
    subst (λ (xs : List Told). Reports xs old new) (sym (map_more f races i d lt))
    (reports_then (map f (take i races)) (f (get_or races i d) ∷ []) old middle new h
    (reports_one (f (get_or races i d)) middle new k))
