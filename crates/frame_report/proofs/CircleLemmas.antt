-- The rows that are known to hold levers, and the circles to which they lead.
use Rattle.std.proofs.Common.{◌≡◌, ℕ, zero, suc, ◌+◌, ◌-◌, ◌<◌, Bool, false, List, [], ◌∷◌, length, map}
use Rattle.std.proofs.Common.{refl, sym, subst, ◌∙◌, arith, get_or}
use Rattle.std.specs.Prelude.{Option, Some, None, position}
use Rattle.std.proofs.lemmas.List.{length-map}
use Rattle.std.proofs.lemmas.List.Quantifiers.{position-Some}
use Rattle.frame_walk.specs.Walked.{Walked}
use Rattle.frame_findings.specs.declared.finding.Finding.{Finding}
use Rattle.frame_findings.specs.declared.finding.Finding.TheVariants.{First, Never, Open}
use Rattle.row_circles.specs.Circles.{AreHolders, IsCircle, IsHolder, holder_at}
use Rattle.frame_report.specs.declared.report.LeverReport.{LeverReport}
use Rattle.frame_report.specs.Report.{AreBlamed, AreHolding, AreLeverReports, AreRound, AreToBlame, holders_in}

-- the first row that is marked
abbrev first_of : List Bool → Option ℕ
first_of marks = position (λ mark. mark) marks

held_is : (w : Walked) (lever : ℕ) (marks : List Bool) (o : Option ℕ) → AreHolding w lever marks → first_of marks ≡ o
    → IsHolder w lever o
held_is w lever marks None are is = tt
held_is w lever marks (Some at) are is =
    let p = position-Some (λ (mark : Bool). mark) marks at false is in
    record {
      within = omega (arith, p.0, are.long);
      always = (are.each at false p.0).0 p.1;
    }

-- the first of the rows to blame holds the lever in every state
pub blamed_holds : (w : Walked) (lever : ℕ) (own : Finding) (marks : List Bool) → AreToBlame w lever own marks
    → IsHolder w lever (first_of marks)
blamed_holds w lever (First at) marks none = subst (λ (ms : List Bool). IsHolder w lever (first_of ms)) (sym none) tt
blamed_holds w lever Never marks are = held_is w lever marks (first_of marks) are refl
blamed_holds w lever Open marks none = subst (λ (ms : List Bool). IsHolder w lever (first_of ms)) (sym none) tt

-- what holds of an element's image holds at its place in the mapped list
mapped_at : (P : Option ℕ → Type 0) (f : LeverReport → Option ℕ) (xs : List LeverReport) (k : ℕ) (e : Option ℕ)
    → k < length xs → ((d : LeverReport) → P (f (get_or xs k d))) → P (get_or (map f xs) k e)
mapped_at P f [] k e lt each = absurd (omega (arith, lt))
mapped_at P f (x ∷ xs) zero e lt each = each x
mapped_at P f (x ∷ xs) (suc k) e lt each = mapped_at P f xs k e (omega (arith, lt)) each

-- the rows that the reports name hold their levers
pub holders_are : (w : Walked) (reports : List LeverReport) → AreBlamed w reports → AreHolders w (holders_in reports)
holders_are w reports are = record {
  long = length-map reports (λ (report : LeverReport). first_of report.holding.items) ∙ are.long;
  each = λ lever is.
      let lt : lever - 1 < length reports = omega (arith, are.long, is.0, is.1) in
      let same : lever - 1 + 1 ≡ lever = omega (arith, is.0) in
      subst (λ (l : ℕ). IsHolder w l (holder_at (holders_in reports) lever)) same
      (mapped_at (λ (o : Option ℕ). IsHolder w (lever - 1 + 1) o)
      (λ (report : LeverReport). first_of report.holding.items) reports (lever - 1) None lt
      (λ d. blamed_holds w (lever - 1 + 1) (get_or reports (lever - 1) d).own
      (get_or reports (lever - 1) d).holding.items (are.each (lever - 1) d lt)));
}

-- the reports on levers name the rows to blame
pub blamed_of : (w : Walked) (numbers : List ℕ) (reports : List LeverReport)
    → AreLeverReports w numbers w.levers reports → AreBlamed w reports
blamed_of w numbers reports are = record { long = are.long; each = λ k d lt. (are.each k d lt).holding }

-- a circle has rows
pub round_is : (w : Walked) (holders : List (Option ℕ)) (lever : ℕ) (circle : List ℕ)
    → IsCircle w holders lever circle → AreRound w holders lever circle
round_is w holders lever [] is = absurd (omega (arith, is.some))
round_is w holders lever (at ∷ circle) is = is
