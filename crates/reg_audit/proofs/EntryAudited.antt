-- An audit goes on by one entry.
use Rattle.std.proofs.Common.{◌≡◌, ℕ, ◌+◌, ◌<◌, List, [], ◌∷◌, ◌++◌, length, get_or, replicate, refl}
use Rattle.std.proofs.Common.{sym, ap, ◌∙◌, arith, slice_set}
use Rattle.std.proofs.lemmas.List.{append_assoc, append-nil, length-append, length-replicate, length-set}
use Rattle.std.proofs.lemmas.Option.{slice_get-get_or}
use Rattle.line_plan.specs.Plans.{PlanFields}
use Rattle.line_law.specs.declared.call.Entry.{Entry}
use Rattle.line_law.specs.declared.ways.ByWay.{ByWay}
use Rattle.line_law.specs.History.{after_entry, state_of}
use Rattle.line_law.specs.States.{LineState, opening_state}
use Rattle.line_law.proofs.Histories.{state_grows}
use Rattle.line_report.specs.declared.sections.HeldTrains.{HeldTrains}
use Rattle.reg_audit.specs.declared.deed.Deed.{Deed}
use Rattle.reg_audit.specs.declared.marks.SideMarks.{SideMarks}
use Rattle.reg_audit.specs.declared.rule.Breach.{Breach}
use Rattle.reg_audit.specs.Auditors.{AuditorFields, HasAudited}
use Rattle.reg_audit.specs.Deeds.{deed_of}
use Rattle.reg_audit.specs.Held.{AreHeld}
use Rattle.reg_audit.specs.Marks.{breaches_at, breaches_from, breaches_of, held_beside, marks_after, marks_at}
use Rattle.reg_audit.specs.Marks.{opening_marks}

-- ---- what is at hand

-- the marks of a box, read from the list
read_marks : (marks : List (ByWay SideMarks)) (b : ℕ) (here : ByWay SideMarks) → b < length marks
    → here ≡ get_or marks b here → here ≡ marks_at marks b
read_marks marks b here within is =
    let one = slice_get-get_or marks b here within in
    let other = slice_get-get_or marks b opening_marks within in
    cc

-- what the audit has at hand for an entry: what was done, the marks of its box and the trains of its section
pub record IsAtHand (plan : PlanFields) (state : LineState) (e : Entry) (marks : List (ByWay SideMarks)) (deed : Deed)
    (here : ByWay SideMarks) (held : ℕ) : Type 0 where
  pub deed_is : deed ≡ deed_of plan e
  pub here_is : here ≡ marks_at marks e.box_no
  pub held_is : held ≡ held_beside plan (after_entry plan state e) e.box_no (deed_of plan e)

-- what an auditor looks up for an entry is what he needs of it
pub at_hand : (plan : PlanFields) (state : LineState) (e : Entry) (marks : List (ByWay SideMarks)) (deed : Deed)
    (here : ByWay SideMarks) (held : ℕ) → e.box_no < length marks → deed ≡ deed_of plan e
    → here ≡ get_or marks e.box_no here
    → held ≡ held_beside plan (after_entry plan state e) e.box_no (deed_of plan e)
    → IsAtHand plan state e marks deed here held
at_hand plan state e marks deed here held within deed_is here_is held_is = record {
  deed_is = deed_is;
  here_is = read_marks marks e.box_no here within here_is;
  held_is = held_is;
}

-- the marks after an entry
abbrev marks_then : PlanFields → Entry → List (ByWay SideMarks) → List (ByWay SideMarks)
marks_then plan e marks =
    slice_set marks e.box_no (marks_after plan (deed_of plan e) (marks_at marks e.box_no))

marks_on : (plan : PlanFields) (state : LineState) (e : Entry) (marks : List (ByWay SideMarks)) (deed : Deed)
    (here after : ByWay SideMarks) (held : ℕ) → IsAtHand plan state e marks deed here held
    → after ≡ marks_after plan deed here → slice_set marks e.box_no after ≡ marks_then plan e marks
marks_on plan state e marks deed here after held hand is =
    ap (λ (m : ByWay SideMarks). slice_set marks e.box_no m)
    (is ∙ ap (λ (d : Deed). marks_after plan d here) hand.deed_is
    ∙ ap (λ (m : ByWay SideMarks). marks_after plan (deed_of plan e) m) hand.here_is)

-- the breaches of an entry
at_entry : (plan : PlanFields) (state : LineState) (k : ℕ) (e : Entry) (marks : List (ByWay SideMarks)) (deed : Deed)
    (here : ByWay SideMarks) (held : ℕ) → IsAtHand plan state e marks deed here held
    → breaches_at plan k here held deed ≡ breaches_at plan k (marks_at marks e.box_no)
    (held_beside plan (after_entry plan state e) e.box_no (deed_of plan e)) (deed_of plan e)
at_entry plan state k e marks deed here held hand =
    ap (λ (x : Deed). breaches_at plan k here held x) hand.deed_is
    ∙ ap (λ (m : ByWay SideMarks). breaches_at plan k m held (deed_of plan e)) hand.here_is
    ∙ ap (λ (n : ℕ). breaches_at plan k (marks_at marks e.box_no) n (deed_of plan e)) hand.held_is

-- ---- the audit after it

-- an auditor who has audited the entries so far has audited one more
pub audited_on : (plan : PlanFields) (es : List Entry) (e : Entry) (old : AuditorFields) (deed : Deed)
    (here after : ByWay SideMarks) (held : ℕ) (trains : List (ByWay HeldTrains)) (found : List Breach)
    → HasAudited plan es old → IsAtHand plan (state_of plan es) e old.marks deed here held
    → after ≡ marks_after plan deed here
    → AreHeld plan (after_entry plan (state_of plan es) e) (length es + 1) trains
    → found ≡ old.found ++ breaches_at plan (old.count + 1) here held deed
    → HasAudited plan (es ++ e ∷ []) (record {
      marks = slice_set old.marks e.box_no after;
      trains = trains;
      count = old.count + 1;
      found = found;
    })
audited_on plan es e old deed here after held trains found has hand after_is held_on found_is =
    let state : LineState = state_of plan es in
    let k : ℕ = old.count + 1 in
    let grows : state_of plan (es ++ e ∷ []) ≡ after_entry plan state e = state_grows plan es e in
    let longer : length (es ++ e ∷ []) ≡ length es + 1 = length-append es (e ∷ []) in
    let marks : slice_set old.marks e.box_no after ≡ marks_then plan e old.marks =
    marks_on plan state e old.marks deed here after held hand after_is in
    let mine : breaches_at plan k here held deed ≡ breaches_at plan k (marks_at old.marks e.box_no)
    (held_beside plan (after_entry plan state e) e.box_no (deed_of plan e)) (deed_of plan e) =
    at_entry plan state k e old.marks deed here held hand in
    let count = has.count in
    record {
      each = length-set old.marks e.box_no after ∙ has.each;
      trains = rw (grows, longer) held_on;
      count = omega (arith, count, longer);
      found = λ more.
          let later : List Breach =
          breaches_from plan (after_entry plan state e) (marks_then plan e old.marks) (k + 1) more in
          ap (λ (s : LineState). found ++ breaches_from plan s (slice_set old.marks e.box_no after) (k + 1) more) grows
          ∙ ap (λ (ms : List (ByWay SideMarks)). found ++ breaches_from plan (after_entry plan state e) ms (k + 1) more)
          marks
          ∙ ap (λ (bs : List Breach). bs ++ later) (found_is ∙ ap (λ (bs : List Breach). old.found ++ bs) mine)
          ∙ append_assoc old.found _ later ∙ has.found (e ∷ more)
          ∙ ap (breaches_of plan) (sym (append_assoc es (e ∷ []) more));
    }

-- before the first entry nothing is found
pub audited_none : (plan : PlanFields) (marks : List (ByWay SideMarks)) (trains : List (ByWay HeldTrains))
    (found : List Breach) → marks ≡ replicate (length plan.boxes) opening_marks
    → AreHeld plan (opening_state plan) 0 trains → found ≡ []
    → HasAudited plan [] (record { marks = marks; trains = trains; count = 0; found = found })
audited_none plan marks trains found is held none = record {
  each = ap length is ∙ length-replicate (length plan.boxes) opening_marks;
  trains = held;
  count = refl;
  found = λ more.
      ap (λ (bs : List Breach). bs ++ breaches_from plan (opening_state plan) marks 1 more) none
      ∙ ap (λ (ms : List (ByWay SideMarks)). breaches_from plan (opening_state plan) ms 1 more) is;
}

-- at the end all breaches are found
pub audited_all : (plan : PlanFields) (es : List Entry) (auditor : AuditorFields) → HasAudited plan es auditor
    → auditor.found ≡ breaches_of plan es
audited_all plan es auditor has =
    sym (append-nil auditor.found) ∙ has.found [] ∙ ap (breaches_of plan) (append-nil es)
