-- The lines of refused calls, one after another.
use Rattle.std.proofs.Common.{ℕ, ◌+◌, ◌<◌, ◌≤◌, List, length, drop, get_or, refl, sym, subst}
use Rattle.std.proofs.lemmas.List.{drop_all, drop_more}
use Rattle.line_plan.specs.Plans.{PlanFields}
use Rattle.line_law.specs.declared.call.Entry.{Entry}
use Rattle.line_law.specs.Refusals.{is_refused}
use Rattle.hand_working.specs.Endings.{TellsRefusal, TellsRefusals}

-- what remains to be told of some entries, behind what is told, makes the lines of all
pub record TellsRest (plan : PlanFields) (es : List Entry) (i : ℕ) (old now : List ℕ) : Type 0 where
  pub rest : (new : List ℕ) → TellsRefusals plan (drop i es) now new → TellsRefusals plan es old new

pub rest_all : (plan : PlanFields) (es : List Entry) (old : List ℕ) → TellsRest plan es 0 old old
rest_all plan es old = record { rest = λ new h. h }

pub rest_next : (plan : PlanFields) (es : List Entry) (i : ℕ) (d : Entry) (old now more : List ℕ) → i < length es
    → TellsRest plan es i old now → TellsRefusal (is_refused (get_or es i d).reply) plan (get_or es i d) now more
    → TellsRest plan es (i + 1) old more
rest_next plan es i d old now more lt h one =
    record {
      rest = λ new k. h.rest new
          (subst (λ (xs : List Entry). TellsRefusals plan xs now new) (sym (drop_more es i d lt)) (more, one, k));
    }

pub rest_none : (plan : PlanFields) (es : List Entry) (i : ℕ) (old now : List ℕ) → length es ≤ i
    → TellsRest plan es i old now → TellsRefusals plan es old now
rest_none plan es i old now le h =
    h.rest now (subst (λ (xs : List Entry). TellsRefusals plan xs now now) (sym (drop_all i es le)) refl)
