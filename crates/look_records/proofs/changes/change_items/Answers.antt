use Rattle.std.proofs.Common.{ap, arith, length, map}
use Rattle.serde_json.specs.View.{view}
use Rattle.line_plan.specs.Plans.{PlanFields}
use Rattle.look_records.proofs.Listed.{puts_here, puts_none}
use Rattle.look_records.proofs.changes.change_items.Goals as goal

pub loop-box_no-preserved : goal.loop-box_no-preserved
loop-box_no-preserved c new more =
    let boxes = ap (λ (plan : PlanFields). length plan.boxes) c.plan.view_is in
    let within = rw c.as_slice-items.ensures at c.loop-box_no-test.true in
    c.loop-box_no.invariant new
    (puts_here c.args.plan.now c.args.earlier.now.line c.args.now.now.line c.args.plan.now.boxes c.loop-box_no.box_no
    c.in_ok-things.things.items (map view c.loop-box_no.values.items) _ new (omega (arith, boxes, within))
    c.in_ok-things.ensures (rw c.deref.ensures.value at c.in_ok-add_look.ensures) more)

pub returns : goal.returns
returns c =
    let boxes = ap (λ (plan : PlanFields). length plan.boxes) c.plan.view_is in
    let over = rw c.as_slice-items.ensures at c.loop-box_no-test.false in
    c.loop-box_no.invariant (map view c.loop-box_no.values.items)
    (puts_none c.args.plan.now c.args.earlier.now.line c.args.now.now.line c.args.plan.now.boxes c.loop-box_no.box_no
    (map view c.loop-box_no.values.items) (omega (arith, boxes, over)))
