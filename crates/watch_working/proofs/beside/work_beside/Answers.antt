use Rattle.std.proofs.Common.{rules, ◌≡◌, ℕ, List, get_or, subst}
use Rattle.atomic_table.specs.Seated.{TableId}
use Rattle.line_plan.specs.Plans.{PlanFields}
use Rattle.line_working.specs.Working.{DidWork}
use Rattle.script_text.specs.declared.script.Script.{Script}
use Rattle.signalman_seats.specs.Men.{Man}
use Rattle.watch_working.proofs.beside.work_beside.Goals as goal

written : (table_id : TableId) (plan : PlanFields) (script : Script) (looks : ℕ) (before d : Man) (i : ℕ)
    (left men : List Man) → left ≡ men → DidWork table_id plan script looks before (get_or left i d)
    → DidWork table_id plan script looks before (get_or men i d)
written table_id plan script looks before d i left men e did =
    subst (λ (ms : List Man). DidWork table_id plan script looks before (get_or ms i d)) e did

pub returns-clause-worked : goal.returns-clause-worked
returns-clause-worked g c i d e lt = written _ _ _ _ _ d i _ _ (search rules) (c.join_mut.ensures.1.met.1.1 i d e lt)
