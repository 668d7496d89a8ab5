-- An entry of a legal journal at its place.
use Rattle.std.proofs.Common.{◌≡◌, ℕ, ◌+◌, ◌<◌, List, [], ◌∷◌, ◌++◌, length, take, drop, get_or, Some, slice_get}
use Rattle.std.proofs.Common.{sym, ap, subst, ◌∙◌}
use Rattle.std.proofs.lemmas.List.{drop_more, take-append-drop, take_more}
use Rattle.std.proofs.lemmas.Option.{slice_get-get_or}
use Rattle.line_plan.specs.Plans.{PlanFields}
use Rattle.line_law.specs.declared.call.Entry.{Entry}
use Rattle.line_law.specs.History.{IsLegal, after_entry, state_of}
use Rattle.line_law.specs.Law.{MayCall, step}
use Rattle.line_law.specs.States.{IsStateOf}
use Rattle.line_law.proofs.Histories.{entry_determined, history_states, prefix_legal, state_grows}
use Rattle.line_law.proofs.Sides.{known_box}

-- At this place of a legal journal stands this entry: it is of a box of the line, its call may be made there, its reply
-- is the law's, and the journal's state goes on with it.
pub record IsEntryAt (plan : PlanFields) (es : List Entry) (i : ℕ) (e : Entry) : Type 0 where
  pub at : slice_get es i ≡ Some e
  pub may : MayCall plan (state_of plan (take i es)) e.box_no e.call
  pub told : e.reply ≡ (step plan (state_of plan (take i es)) e.box_no e.call).reply
  pub state : state_of plan (take (i + 1) es) ≡ after_entry plan (state_of plan (take i es)) e
  pub box_no : e.box_no < length plan.boxes
  pub shape : IsStateOf plan (state_of plan (take i es))

-- an entry of a legal history stands at its place
pub entry_at : (plan : PlanFields) (es : List Entry) (i : ℕ) (d : Entry) → IsLegal plan es → i < length es
    → IsEntryAt plan es i (get_or es i d)
entry_at plan es i d legal within =
    let e : Entry = get_or es i d in
    let whole : take i es ++ e ∷ drop (i + 1) es ≡ es =
    ap (λ (xs : List Entry). take i es ++ xs) (sym (drop_more es i d within)) ∙ take-append-drop i es in
    let found = entry_determined plan (take i es) (drop (i + 1) es) e
    (subst (λ (xs : List Entry). IsLegal plan xs) (sym whole) legal) in
    record {
      at = slice_get-get_or es i d within;
      may = found.0;
      told = ap (λ (x : Entry). x.reply) found.1;
      state = ap (λ (xs : List Entry). state_of plan xs) (take_more es i d within) ∙ state_grows plan (take i es) e;
      box_no = known_box plan e.box_no e.call found.0.known;
      shape = history_states plan (take i es);
    }

-- what stands before a place of a legal journal is legal
pub legal_before : (plan : PlanFields) (es : List Entry) (i : ℕ) → IsLegal plan es → IsLegal plan (take i es)
legal_before plan es i legal = prefix_legal plan (take i es) (drop i es)
    (subst (λ (xs : List Entry). IsLegal plan xs) (sym (take-append-drop i es)) legal)

-- Behind a legal journal comes this entry, with which it is one again: the entry is of a box of the line, its call may
-- be made there, and its reply is the law's.
pub record IsNext (plan : PlanFields) (es : List Entry) (e : Entry) : Type 0 where
  pub before : IsLegal plan es
  pub may : MayCall plan (state_of plan es) e.box_no e.call
  pub told : e.reply ≡ (step plan (state_of plan es) e.box_no e.call).reply
  pub box_no : e.box_no < length plan.boxes

-- the last entry of a legal history is the next one of those before it
pub is_next : (plan : PlanFields) (es : List Entry) (e : Entry) → IsLegal plan (es ++ e ∷ []) → IsNext plan es e
is_next plan es e legal =
    let found = entry_determined plan es [] e legal in
    record {
      before = prefix_legal plan es (e ∷ []) legal;
      may = found.0;
      told = ap (λ (x : Entry). x.reply) found.1;
      box_no = known_box plan e.box_no e.call found.0.known;
    }
