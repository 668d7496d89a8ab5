-- A line goes on by the entries of a legal journal.
use Rattle.std.proofs.Common.{◌≡◌, ℕ, ◌+◌, ◌<◌, List, ◌∷◌, length, drop, get_or, ap, subst}
use Rattle.std.proofs.lemmas.List.{drop_more}
use Rattle.line_plan.specs.Plans.{PlanFields}
use Rattle.line_law.specs.declared.call.Entry.{Entry}
use Rattle.line_law.specs.declared.call.Reply.{Reply}
use Rattle.line_law.specs.History.{IsLegalFrom, state_after}
use Rattle.line_law.specs.Law.{Done, MayCall, step}
use Rattle.line_law.specs.States.{LineState}

legal_here : (plan : PlanFields) (state : LineState) (es : List Entry) (i : ℕ) (d : Entry) → i < length es
    → IsLegalFrom plan state (drop i es) → IsLegalFrom plan state (get_or es i d ∷ drop (i + 1) es)
legal_here plan state es i d within h =
    subst (λ (xs : List Entry). IsLegalFrom plan state xs) (drop_more es i d within) h

-- the next entry's call may be made
pub may_call : (plan : PlanFields) (state : LineState) (es : List Entry) (i : ℕ) (d : Entry) → i < length es
    → IsLegalFrom plan state (drop i es) → MayCall plan state (get_or es i d).box_no (get_or es i d).call
may_call plan state es i d within h = (legal_here plan state es i d within h).0

-- what comes behind it is legal behind it
pub legal_next : (plan : PlanFields) (old new : LineState) (reply : Reply) (es : List Entry) (i : ℕ) (d : Entry)
    → i < length es
    → step plan old (get_or es i d).box_no (get_or es i d).call ≡ record { reply = reply; after = new }
    → IsLegalFrom plan old (drop i es) → IsLegalFrom plan new (drop (i + 1) es)
legal_next plan old new reply es i d within told h =
    subst (λ (s : LineState). IsLegalFrom plan s (drop (i + 1) es)) (ap (λ (done : Done). done.after) told)
    (legal_here plan old es i d within h).2

-- and ends where all end
pub state_next : (plan : PlanFields) (old new last : LineState) (reply : Reply) (es : List Entry) (i : ℕ) (d : Entry)
    → i < length es
    → step plan old (get_or es i d).box_no (get_or es i d).call ≡ record { reply = reply; after = new }
    → state_after plan old (drop i es) ≡ last → state_after plan new (drop (i + 1) es) ≡ last
state_next plan old new last reply es i d within told h =
    subst (λ (s : LineState). state_after plan s (drop (i + 1) es) ≡ last) (ap (λ (done : Done). done.after) told)
    (subst (λ (xs : List Entry). state_after plan old xs ≡ last) (drop_more es i d within) h)
