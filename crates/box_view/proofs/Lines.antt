-- The lines of levers, one after another.
use Rattle.std.proofs.Common.{ℕ, ◌+◌, ◌<◌, ◌≤◌, List, length, drop, get_or, refl, sym}
use Rattle.std.proofs.Common.{subst}
use Rattle.std.proofs.lemmas.List.{drop_all, drop_more}
use Rattle.line_plan.specs.Plans.{PlanFields}
use Rattle.line_plan.specs.declared.frame.Lever.{Lever}
use Rattle.line_law.specs.States.{LineState}
use Rattle.box_view.specs.Moves.{TellsMove, TellsMoves}

-- what remains to be told of some levers, behind what is told, makes the lines of all
pub record TellsRest (plan : PlanFields) (state : LineState) (b moment : ℕ) (levers : List Lever) (i : ℕ)
    (old now : List ℕ) : Type 0 where
  pub rest : (new : List ℕ) → TellsMoves plan state b moment (drop i levers) now new
      → TellsMoves plan state b moment levers old new

pub rest_all : (plan : PlanFields) (state : LineState) (b moment : ℕ) (levers : List Lever) (old : List ℕ)
    → TellsRest plan state b moment levers 0 old old
rest_all plan state b moment levers old = record { rest = λ new h. h }

pub rest_next : (plan : PlanFields) (state : LineState) (b moment : ℕ) (levers : List Lever) (i : ℕ) (d : Lever)
    (old now more : List ℕ) → i < length levers → TellsRest plan state b moment levers i old now
    → TellsMove plan state b moment (get_or levers i d).number now more
    → TellsRest plan state b moment levers (i + 1) old more
rest_next plan state b moment levers i d old now more lt h one =
    record {
      rest = λ new k. h.rest new
          (subst (λ (xs : List Lever). TellsMoves plan state b moment xs now new) (sym (drop_more levers i d lt))
          (more, one, k));
    }

pub rest_none : (plan : PlanFields) (state : LineState) (b moment : ℕ) (levers : List Lever) (i : ℕ)
    (old now : List ℕ) → length levers ≤ i → TellsRest plan state b moment levers i old now
    → TellsMoves plan state b moment levers old now
rest_none plan state b moment levers i old now le h =
    h.rest now
    (subst (λ (xs : List Lever). TellsMoves plan state b moment xs now now) (sym (drop_all i levers le)) refl)
