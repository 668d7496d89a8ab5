use Rattle.std.proofs.Common.{◌<◌, ℕ, List, length, slice_index_or, sym, subst, arith}
use Rattle.std.proofs.lemmas.List.{get_or-replicate, length-replicate}
use Rattle.line_plan.specs.Plans.{PlanFields}
use Rattle.script_text.specs.Scripts.{IsScriptOf}
use Rattle.signalman_seats.specs.Men.{IsFresh, Man}
use Rattle.line_working.specs.Working.{CanWork}
use Rattle.line_working.proofs.FreshMen.{fresh_works}
use Rattle.working_tests.proofs.line.worked.Goals as goal

pub work_line-requires-clause-ready : goal.work_line-requires-clause-ready
work_line-requires-clause-ready g c κs within i d e h =
    let plan = c.args.plan.now in
    let line = c.in_ok-line.line in
    let script = slice_index_or c.args.scripts.now i e in
    let man = slice_index_or c.in_ok-line.men.items i d in
    let men = c.in_ok-line.ensures.men in
    let here : i < length c.in_ok-line.men.items =
    subst (λ (ms : List Man). i < length ms) c.deref_mut.ensures.value h in
    let box : i < length plan.boxes = let each = men.each in
    omega (arith, length-replicate {A = ℕ} (length plan.boxes) 10000) in
    let own : IsScriptOf plan i script =
    c.requires.scripts.own i e (subst (λ (n : ℕ). i < n) (sym c.requires.scripts.each) box) in
    let fresh : IsFresh line.table.shared.table_id plan i 10000 man =
    subst (λ (n : ℕ). IsFresh line.table.shared.table_id plan i n man)
    (get_or-replicate (length plan.boxes) i 10000 0 box) (men.fresh i d here) in
    subst (λ (ms : List Man). CanWork line.table.shared.table_id line.table.shared.key script (slice_index_or ms i d))
    (sym c.deref_mut.ensures.value)
    (subst (λ (p : PlanFields). CanWork line.table.shared.table_id p script man) (sym c.in_ok-line.ensures.line)
    (fresh_works line.table.shared.table_id plan i 10000 script man fresh own own.few))
