-- Entries of two boxes that are decided on different words change places in a legal history.
use Rattle.std.proofs.Common.{◌≡◌, ◌≢◌, ◌≤◌, List, ◌∷◌, ◌++◌, sym, ap, subst, ◌∙◌}
use Rattle.line_plan.specs.Plans.{IsPlan, PlanFields}
use Rattle.line_law.specs.declared.call.Entry.{Entry}
use Rattle.line_law.specs.declared.state.BoxState.{BoxState}
use Rattle.line_law.specs.States.{LineState, box_at, opening_state}
use Rattle.line_law.specs.History.{IsLegal, IsLegalFrom, after_entry, state_after, state_of}
use Rattle.line_law.specs.Law.{MayCall}
use Rattle.word_laws.specs.Footprint.{OnOtherWords}
use Rattle.line_law.proofs.Histories.{history_states, legal_both, legal_first, legal_then, state_both}
use Rattle.word_laws.proofs.Footprints.{keeps_others}
use Rattle.word_laws.proofs.Commuting.{commute}

-- a call that may be made may be made where its box is the same
may_along : (plan : PlanFields) (state other : LineState) (e : Entry) → box_at other e.box_no ≡ box_at state e.box_no
    → MayCall plan state e.box_no e.call → MayCall plan other e.box_no e.call
may_along plan state other e same may =
    record { known = may.known; later = subst (λ (here : BoxState). here.moment ≤ e.call.moment) (sym same) may.later }

-- the two entries as they were, and what follows from that
record Exchanges (plan : PlanFields) (state : LineState) (e f : Entry) (more : List Entry) : Type 0 where
  legal : IsLegalFrom plan state (f ∷ e ∷ more)
  after : after_entry plan (after_entry plan state f) e ≡ after_entry plan (after_entry plan state e) f

exchanges : (plan : PlanFields) (es more : List Entry) (e f : Entry) → IsPlan plan → IsLegal plan (es ++ e ∷ f ∷ more)
    → e.box_no ≢ f.box_no → OnOtherWords plan (state_of plan es) e.box_no e.call f.box_no f.call
    → Exchanges plan (state_of plan es) e f more
exchanges plan es more e f is h differ others =
    let state = state_of plan es in
    let shape = history_states plan es in
    let rest = legal_then plan (opening_state plan) es (e ∷ f ∷ more) h in
    let both = commute plan state e.box_no e.call f.box_no f.call is shape rest.0.known rest.2.0.known differ others in
    let same_f =
    (keeps_others plan state e.box_no e.call is shape rest.0.known).boxes f.box_no (λ same. differ (sym same)) in
    let may_f = may_along plan (after_entry plan state e) state f (sym same_f) rest.2.0 in
    let same_e = (keeps_others plan state f.box_no f.call is shape may_f.known).boxes e.box_no differ in
    let may_e = may_along plan state (after_entry plan state f) e same_e rest.0 in
    record {
      legal = (
        may_f,
        rest.2.1
            ∙ both.second,
        (may_e, rest.1 ∙ sym both.first, subst (λ (s : LineState). IsLegalFrom plan s more) both.after rest.2.2),
      );
      after = sym both.after;
    }

-- neighbouring entries of two boxes on different words may change places in a legal history
pub legal_exchange : (plan : PlanFields) (es more : List Entry) (e f : Entry) → IsPlan plan
    → IsLegal plan (es ++ e ∷ f ∷ more) → e.box_no ≢ f.box_no
    → OnOtherWords plan (state_of plan es) e.box_no e.call f.box_no f.call → IsLegal plan (es ++ f ∷ e ∷ more)
legal_exchange plan es more e f is h differ others =
    legal_both plan (opening_state plan) es (f ∷ e ∷ more) (legal_first plan (opening_state plan) es (e ∷ f ∷ more) h)
    (exchanges plan es more e f is h differ others).legal

-- a history with such entries exchanged leads to the same state
pub state_exchange : (plan : PlanFields) (es more : List Entry) (e f : Entry) → IsPlan plan
    → IsLegal plan (es ++ e ∷ f ∷ more) → e.box_no ≢ f.box_no
    → OnOtherWords plan (state_of plan es) e.box_no e.call f.box_no f.call
    → state_of plan (es ++ f ∷ e ∷ more) ≡ state_of plan (es ++ e ∷ f ∷ more)
state_exchange plan es more e f is h differ others =
    state_both plan (opening_state plan) es (f ∷ e ∷ more)
    ∙ ap (λ (s : LineState). state_after plan s more) (exchanges plan es more e f is h differ others).after
    ∙ sym (state_both plan (opening_state plan) es (e ∷ f ∷ more))
