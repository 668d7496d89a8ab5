-- A man as the line opens.
use Rattle.std.proofs.Common.{◌≡◌, ◌≢◌, ⊎_elim, ◌==◌, true, false, get_or, ℕ, ◌+◌, ◌<◌, ◌≤◌, List, [], ◌∷◌, ◌++◌}
use Rattle.std.proofs.Common.{length, Option, sym, ap, ◌∙◌, subst, arith}
use Rattle.std.specs.Prelude.{IfSome}
use Rattle.std.proofs.lemmas.Bool.Decides.{eqb_tells}
use Rattle.std.proofs.lemmas.List.{get_or_push, get_or_append_left}
use Rattle.line_plan.specs.Plans.{PlanFields}
use Rattle.line_law.specs.declared.call.Entry.{Entry}
use Rattle.line_law.specs.History.{IsLegal, part_of, state_of}
use Rattle.line_law.specs.States.{box_at}
use Rattle.line_law.proofs.Opens.{opening_at}
use Rattle.box_desk.specs.Desks.{DeskFields}
use Rattle.train_register.specs.Registers.{RegisterFields}
use Rattle.instrument_rule.specs.declared.view.View.{View}
use Rattle.instrument_rule.specs.Rule.{most_entries}
use Rattle.signalman_seats.specs.declared.notes.PlanNotes.{PlanNotes}
use Rattle.signalman_seats.specs.Men.{AreFittings, IsAtDesk, IsDrawn, IsMan, Man}
use Rattle.signalman_seats.specs.Notes.{AreNotesOf}

-- a man with a post that was just drawn and fittings that were just opened
pub new_man : (plan : PlanFields) (b room : ℕ) (v : View) (desk : DeskFields) (register : RegisterFields)
    (notes : PlanNotes) → b < length plan.boxes → room ≤ 10000 → IsDrawn plan b v
    → AreFittings plan b room desk register notes → IsMan v b desk register 0 notes
new_man plan b room v desk register notes within most drawn fit = record {
  post = drawn.posts;
  olds = drawn.olds;
  at_desk = subst (λ (o : Option PlanFields). IfSome o (λ p. IsAtDesk p b v.seen desk)) (sym drawn.plan_is) (record {
    legal = subst (IsLegal plan) (sym drawn.seen) tt;
    desk_of = fit.desk_of;
    here = fit.here ∙ (sym (opening_at plan b within) ∙ ap (λ (es : List Entry). box_at (state_of plan es) b)
        (sym drawn.seen));
  });
  box_no = ap (λ (r : RegisterFields). r.box_no) fit.empty;
  entries = ap (λ (r : RegisterFields). r.entries) fit.empty ∙ ap (part_of b) (sym drawn.seen);
  room = subst (λ (r : RegisterFields). length r.entries + r.spare ≤ most_entries) (sym fit.empty)
      (omega (arith, most));
  calls = fit.calls ∙ sym (ap (λ (r : RegisterFields). length r.entries) fit.empty);
  looks = sym drawn.looks;
  few_looks = omega arith;
  glances = drawn.glances;
  noted = subst (λ (o : Option PlanFields). IfSome o (λ p. AreNotesOf p b notes)) (sym drawn.plan_is) fit.noted;
}

-- one more at the end
pub pushed : (P : ℕ → Man → Type 0) (men : List Man) (man : Man) (n : ℕ) → length men ≡ n
    → ((k : ℕ) (d : Man) → k < n → P k (get_or men k d)) → P n man → (k : ℕ) (d : Man) → k < n + 1
    → P k (get_or (men ++ man ∷ []) k d)
pushed P men man n len all last k d h = ⊎_elim
    (λ (t : ((k == n) ≡ true) × (k ≡ n)). subst (P k) (sym (get_or_push men man d k (len ∙ sym t.1)))
    (subst (λ (i : ℕ). P i man) (sym t.1) last))
    (λ (t : ((k == n) ≡ false) × (k ≢ n)). let lt : k < length men = let ne = t.1 in omega arith in
    subst (P k) (sym (get_or_append_left men (man ∷ []) d k lt)) (all k d (omega arith)))
    (eqb_tells k n)
