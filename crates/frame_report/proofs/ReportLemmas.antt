-- What is found of levers and rows, one after another.
use Rattle.std.proofs.Common.{◌≡◌, ◌≢◌, ◌↔◌, ℕ, ◌+◌, ◌<◌, Bool, List, [], ◌∷◌, ◌++◌, All, length}
use Rattle.std.proofs.Common.{sym, ap, subst, ◌∙◌, arith, inl, inr, get_or}
use Rattle.std.specs.Prelude.{IsTrue}
use Rattle.std.proofs.lemmas.Bool.{cases_lt}
use Rattle.std.proofs.lemmas.List.{get_or_append_left, get_or_push, length_push}
use Rattle.locking_table.specs.declared.row.Row.{Row}
use Rattle.frame_walk.specs.Walked.{Walked}
use Rattle.frame_findings.specs.Frozen.{HoldsAlways}
use Rattle.row_findings.specs.Covering.{Covers}
use Rattle.locking_table.specs.Sound.{RowFits}
use Rattle.frame_findings.specs.declared.finding.Finding.TheVariants.{Open}
use Rattle.frame_findings.specs.Findings.{IsFinding}
use Rattle.row_refutations.proofs.Reached.{never_so}
use Rattle.frame_report.specs.declared.report.LeverReport.{LeverReport}
use Rattle.frame_report.specs.Report.{AreCoveringBefore, AreHoldingBefore, AreLeverReports, AreReasons, IsInPlace}
use Rattle.frame_report.specs.Report.{IsLeverReport, finding_by, row_at}

-- another row that holds as much, as the rows were read
pub in_place_is : (w : Walked) (at other : ℕ) (does : Bool) (row others : Row) → row_at w.rows at ≡ row
    → row_at w.rows other ≡ others → other ≢ at → IsTrue does ↔ Covers w others row
    → IsTrue does ↔ IsInPlace w at other
in_place_is w at other does row others same there apart is =
    let here = subst (λ (r : Row). IsTrue does ↔ Covers w (row_at w.rows other) r) (sym same)
    (subst (λ (r : Row). IsTrue does ↔ Covers w r row) (sym there) is) in
    (λ h. (apart, here.0 h), λ p. here.1 p.1)

-- a fact of each mark, with one mark more
module _ (P : ℕ → Type 0) (below : ℕ) (marks : List Bool) (mark : Bool) (long : length marks ≡ below)
    (each : (at : ℕ) (d : Bool) → at < length marks → IsTrue (get_or marks at d) ↔ P at)
    (one : IsTrue mark ↔ P below) where
  pub mark_push : (at : ℕ) (d : Bool) → at < length (marks ++ mark ∷ [])
      → IsTrue (get_or (marks ++ mark ∷ []) at d) ↔ P at
  mark_push at d lt = elim (cases_lt at (length marks)) [
    | inl less ↦
        subst (λ (b : Bool). IsTrue b ↔ P at) (sym (get_or_append_left marks (mark ∷ []) d at less)) (each at d less)
    | inr late ↦
        let last : at ≡ length marks = omega (arith, lt, late, length_push marks mark) in
        subst (λ (b : Bool). IsTrue b ↔ P at) (sym (get_or_push marks mark d at (sym last)))
        (subst (λ (n : ℕ). IsTrue mark ↔ P n) (sym (last ∙ long)) one)
  ]

  pub mark_long : length (marks ++ mark ∷ []) ≡ below + 1
  mark_long = length_push marks mark ∙ ap (λ (n : ℕ). n + 1) long

pub holding_push : (w : Walked) (lever below : ℕ) (marks : List Bool) (mark : Bool) (row : Row)
    → AreHoldingBefore w lever below marks → row_at w.rows below ≡ row → IsTrue mark ↔ HoldsAlways w lever row
    → AreHoldingBefore w lever (below + 1) (marks ++ mark ∷ [])
holding_push w lever below marks mark row are same one =
    let here = subst (λ (r : Row). IsTrue mark ↔ HoldsAlways w lever r) (sym same) one in
    record {
      long = mark_long (λ (at : ℕ). HoldsAlways w lever (row_at w.rows at)) below marks mark are.long are.each here;
      each = mark_push (λ (at : ℕ). HoldsAlways w lever (row_at w.rows at)) below marks mark are.long are.each here;
    }

pub covering_push : (w : Walked) (at below : ℕ) (marks : List Bool) (mark : Bool) → AreCoveringBefore w at below marks
    → IsTrue mark ↔ IsInPlace w at below → AreCoveringBefore w at (below + 1) (marks ++ mark ∷ [])
covering_push w at below marks mark are one = record {
  long = mark_long (λ (k : ℕ). IsInPlace w at k) below marks mark are.long are.each one;
  each = mark_push (λ (k : ℕ). IsInPlace w at k) below marks mark are.long are.each one;
}

-- where rows refute what the walk left open, it is never so
pub open_report : (w : Walked) (levers rows : List ℕ) → All (RowFits w.levers) w.rows → IsFinding w levers Open
    → AreReasons w levers rows → IsFinding w levers (finding_by rows)
open_report w levers [] fits left reasons = left
open_report w levers (at ∷ places) fits left reasons = λ can.
    never_so w.rows w.levers levers (at ∷ places) can.state fits reasons can.reachable can.reversed

-- what is found of one lever more
pub levers_push : (w : Walked) (numbers : List ℕ) (levers : ℕ) (reports : List LeverReport) (report : LeverReport)
    → AreLeverReports w numbers levers reports → IsLeverReport w numbers (levers + 1) report
    → AreLeverReports w numbers (levers + 1) (reports ++ report ∷ [])
levers_push w numbers levers reports report are one = record {
  long = length_push reports report ∙ ap (λ (n : ℕ). n + 1) are.long;
  each = λ k d lt. elim (cases_lt k (length reports)) [
    | inl less ↦
        subst (λ (r : LeverReport). IsLeverReport w numbers (k + 1) r)
        (sym (get_or_append_left reports (report ∷ []) d k less)) (are.each k d less)
    | inr late ↦
        let last : k ≡ length reports = omega (arith, lt, late, length_push reports report) in
        subst (λ (r : LeverReport). IsLeverReport w numbers (k + 1) r) (sym (get_or_push reports report d k (sym last)))
        (subst (λ (n : ℕ). IsLeverReport w numbers (n + 1) report) (sym (last ∙ are.long)) one)
  ];
}
