-- What is found of a legal journal is exactly its breaches, in order.
use Rattle.std.proofs.Common.{◌≡◌, ℕ, ◌+◌, ◌<◌, ◌≤◌, Bool, true, inl, inr, List, [], ◌∷◌, ◌++◌, length, take, drop}
use Rattle.std.proofs.Common.{get_or, slice_get, Some, refl, sym, ap, subst, ◌∙◌, arith}
use Rattle.std.specs.Prelude.{◌↔◌, Contains}
use Rattle.std.specs.List.{AllPairs}
use Rattle.std.proofs.lemmas.Bool.Decides.{eqb_tells}
use Rattle.std.proofs.lemmas.List.{drop_more, length-drop}
use Rattle.std.proofs.lemmas.List.Elements.{All-contains_itself, All-weaker, Contains-append_cases}
use Rattle.std.proofs.lemmas.List.Elements.{Contains-append_left, Contains-append_right}
use Rattle.std.proofs.lemmas.Option.{slice_get_within}
use Rattle.block_words.specs.declared.Way.TheVariants.{Up}
use Rattle.line_plan.specs.Plans.{PlanFields}
use Rattle.line_law.specs.declared.call.Act.TheVariants.{Ring}
use Rattle.line_law.specs.declared.call.Entry.{Entry}
use Rattle.line_law.specs.declared.call.Reply.TheVariants.{Rung}
use Rattle.line_law.specs.declared.ways.ByWay.{ByWay}
use Rattle.line_law.specs.History.{IsLegal, after_entry, state_of}
use Rattle.line_law.specs.States.{LineState, opening_state}
use Rattle.reg_audit.specs.declared.marks.SideMarks.{SideMarks}
use Rattle.reg_audit.specs.declared.rule.Breach.{Breach}
use Rattle.reg_audit.specs.declared.rule.Rule.{Rule}
use Rattle.reg_audit.specs.Audits.{ComesBefore, IsAuditOf}
use Rattle.reg_audit.specs.Breaches.{Breaks, IsBreach}
use Rattle.reg_audit.specs.Deeds.{deed_of}
use Rattle.reg_audit.specs.Marks.{breaches_from, breaches_of, held_beside, is_broken, marks_at}
use Rattle.reg_audit.proofs.BoxMarks.{AllMarks, marks_first, marks_more, marks_then}
use Rattle.reg_audit.proofs.InOrder.{before_later, by_entry, contains_none, entry_breaches, entry_order, pairs_both}
use Rattle.reg_audit.proofs.Places.{IsEntryAt, entry_at}
use Rattle.reg_audit.proofs.RuleTells.{breaks_at, breaks_box, rule_tells}

-- no entry
abbrev pub no_entry : Entry
no_entry = record { box_no = 0; call = record { moment = 0; act = Ring Up 0 }; reply = Rung 0 }

-- these are the breaches of a journal by the entries from this place on
record AreFoundFrom (plan : PlanFields) (es : List Entry) (i : ℕ) (breaches : List Breach) : Type 0 where
  exact : (breach : Breach) → (Contains breaches breach ↔ IsBreach plan es breach × (i < breach.entry))
  order : AllPairs ComesBefore breaches

-- ---- behind the last entry

breach_within : (plan : PlanFields) (es : List Entry) (breach : Breach) → IsBreach plan es breach
    → breach.entry ≤ length es
breach_within plan es breach h =
    let there = breaks_at plan es h.place h.box_no breach.rule h.breaks in
    let within = slice_get_within es h.place there.0 there.1 in
    let number = h.number in
    omega (arith, within, number)

found_none : (plan : PlanFields) (es : List Entry) (i : ℕ) → length es ≤ i → AreFoundFrom plan es i []
found_none plan es i past = record {
  exact = λ breach. (
    λ h. absurd (contains_none breach h),
    λ h.
        let within = breach_within plan es breach h.0 in
        let beyond = h.1 in
        absurd (omega (arith, within, beyond, past)),
  );
  order = λ m n d less lt. absurd (omega (arith, lt));
}

-- ---- one entry

-- the rules that an entry breaks, by the marks
abbrev broken_by : PlanFields → ByWay SideMarks → LineState → Entry → Rule → Bool
broken_by plan marks after e = is_broken plan marks (held_beside plan after e.box_no (deed_of plan e)) (deed_of plan e)

entry_tells : (plan : PlanFields) (es : List Entry) (i : ℕ) (e : Entry) (marks : List (ByWay SideMarks))
    (state : LineState) (rule : Rule) → IsEntryAt plan es i e → AllMarks plan es i marks
    → state ≡ state_of plan (take i es)
    → (broken_by plan (marks_at marks e.box_no) (after_entry plan state e) e rule ≡ true
    ↔ Breaks plan es rule e.box_no i)
entry_tells plan es i e marks state rule h all is =
    rule_tells plan es i e (marks_at marks e.box_no)
    (held_beside plan (after_entry plan state e) e.box_no (deed_of plan e)) rule h.at (all.has e.box_no h.box_no)
    (ap (λ (s : LineState). held_beside plan s e.box_no (deed_of plan e))
    (ap (λ (s : LineState). after_entry plan s e) is ∙ sym h.state))

-- the breaches by an entry and by those behind it
found_both : (plan : PlanFields) (es : List Entry) (i : ℕ) (e : Entry) (broken : Rule → Bool) (later : List Breach)
    → slice_get es i ≡ Some e → ((rule : Rule) → (broken rule ≡ true ↔ Breaks plan es rule e.box_no i))
    → AreFoundFrom plan es (i + 1) later → AreFoundFrom plan es i (by_entry (i + 1) broken ++ later)
found_both plan es i e broken later at tells rest =
    let here = by_entry (i + 1) broken in
    record {
      exact = λ breach. (
        λ h. elim (Contains-append_cases here later breach h) [
          | inl mine ↦
              let by = (entry_breaches (i + 1) broken breach).0 mine in
              let number = by.0 in (
                record {
                  place = i;
                  number = number;
                  box_no = e.box_no;
                  breaks = (tells breach.rule).0 by.1;
                },
                omega (arith, number),
              )
          | inr behind ↦
              let by = (rest.exact breach).0 behind in
              let beyond = by.1 in
              (by.0, omega (arith, beyond))
        ],
        λ h. elim (eqb_tells breach.entry (i + 1)) [
          | inl same ↦
              let mine = h.0 in
              let number = mine.number in
              let equal = same.1 in
              let place : mine.place ≡ i = omega (arith, number, equal) in
              let breaks : Breaks plan es breach.rule mine.box_no i =
              subst (λ (k : ℕ). Breaks plan es breach.rule mine.box_no k) place mine.breaks in
              let box : e.box_no ≡ mine.box_no = breaks_box plan es i e mine.box_no breach.rule at breaks in
              Contains-append_left here later breach ((entry_breaches (i + 1) broken breach).1 (
                same.1,
                (tells breach.rule).1 (subst (λ (b : ℕ). Breaks plan es breach.rule b i) (sym box) breaks),
              ))
          | inr differ ↦
              let beyond = h.1 in
              let apart = differ.1 in
              Contains-append_right here later breach ((rest.exact breach).1 (h.0, omega (arith, beyond, apart)))
        ],
      );
      order = pairs_both ComesBefore here later (entry_order (i + 1) broken) rest.order
          (before_later (i + 1) broken later (All-weaker (Contains later) (λ breach. i + 1 < breach.entry)
          (λ breach h. ((rest.exact breach).0 h).1) later (All-contains_itself later)));
    }

-- ---- all entries

found_from : (plan : PlanFields) (es : List Entry) → IsLegal plan es → (rest : List Entry) (i : ℕ)
    (state : LineState) (marks : List (ByWay SideMarks)) → drop i es ≡ rest → state ≡ state_of plan (take i es)
    → AllMarks plan es i marks → AreFoundFrom plan es i (breaches_from plan state marks (i + 1) rest)
found_from plan es legal [] i state marks is state_is all =
    let none = ap length is in
    let left = length-drop i es in
    found_none plan es i (omega (arith, none, left))
found_from plan es legal (e ∷ rest) i state marks is state_is all =
    let some = ap length is in
    let left = length-drop i es in
    let within : i < length es = omega (arith, some, left) in
    let split = drop_more es i no_entry within in
    let same : get_or es i no_entry ≡ e = cc in
    let behind : drop (i + 1) es ≡ rest = cc in
    let h : IsEntryAt plan es i e =
    subst (λ (x : Entry). IsEntryAt plan es i x) same (entry_at plan es i no_entry legal within) in
    let after : after_entry plan state e ≡ state_of plan (take (i + 1) es) =
    ap (λ (s : LineState). after_entry plan s e) state_is ∙ sym h.state in
    found_both plan es i e (broken_by plan (marks_at marks e.box_no) (after_entry plan state e) e)
    (breaches_from plan (after_entry plan state e) (marks_then plan e marks) (i + 1 + 1) rest) h.at
    (λ rule. entry_tells plan es i e marks state rule h all state_is)
    (found_from plan es legal rest (i + 1) (after_entry plan state e) (marks_then plan e marks) behind after
    (marks_more plan es i e marks h all))

-- what is found of a legal journal is exactly its breaches, in order
pub audit_exact : (plan : PlanFields) (es : List Entry) → IsLegal plan es → IsAuditOf plan es (breaches_of plan es)
audit_exact plan es legal =
    let found = found_from plan es legal es 0 (opening_state plan) _ refl refl (marks_first plan es) in
    record {
      exact = λ breach. (
        λ h. ((found.exact breach).0 h).0,
        λ h. (found.exact breach).1 (h, let number = h.number in omega (arith, number)),
      );
      order = found.order;
    }
