use Rattle.std.proofs.Common.{ℕ, ◌+◌, ◌-◌, ◌∙◌, Bool, ap, arith, length}
use mir.Val.{bool_byte}
use Rattle.line_plan.specs.Plans.{PlanFields}
use Rattle.line_runs.proofs.Counted.{counted_fits, counted_next, counted_none, room_next}
use Rattle.line_runs.proofs.counting.count_along.Goals as goal

pub loop-entry-init : goal.loop-entry-init
loop-entry-init c =
    let boxes = ap (λ (plan : PlanFields). length plan.boxes) c.plan.view_is in
    let fewest = c.meets_conditions.ensures.fewest in
    let len = c.len.ensures in
    counted_none (c.len.result - 1) c.meets_conditions.ensures c.requires.legal (omega (arith, boxes, fewest, len))
    c.in_ok-trains.ensures c.in_ok-walk.ensures

pub overflow_add-refused : goal.overflow_add-refused
overflow_add-refused c =
    let few =
    counted_fits c.in-Some.ensures c.requires.few
    (c.from-refused.ensures ∙ ap (λ (b : Bool). bool_byte b) c.is_refused.ensures) c.loop-entry.invariant in
    omega (arith, few)

pub count_on-requires-clause-few : goal.count_on-requires-clause-few
count_on-requires-clause-few c =
    room_next c.in-Some.ensures c.requires.few c.deref_mut.ensures.value c.loop-entry.invariant

pub loop-entry-preserved : goal.loop-entry-preserved
loop-entry-preserved c =
    counted_next c.in-Some.ensures c.deref_mut.ensures.value c.count_on.ensures c.loop-entry.trains.ok.0
    (ap (λ (n : ℕ). c.loop-entry.refused + n)
    (c.from-refused.ensures ∙ ap (λ (b : Bool). bool_byte b) c.is_refused.ensures)) c.loop-entry.invariant
