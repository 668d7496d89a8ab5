use Rattle.std.proofs.Common.{◌-◌, ap, length, arith}
use Rattle.line_plan.specs.Plans.{PlanFields}
use Rattle.plan_check.proofs.Sections.{pair_more}
use Rattle.plan_check.proofs.gaps.add_gaps.Goals as goal

pub loop-rear-preserved : goal.loop-rear-preserved
loop-rear-preserved c =
    let count = c.len-rear-end.ensures in
    let lt = c.loop-rear-test.true in
    let boxes = ap (λ (plan : PlanFields). length plan.boxes) c.plan.view_is in
    pair_more c.args.plan.now c.loop-rear.rear (length c.args.plan.now.boxes - 1) c.loop-rear.found.items
    c.add_pair.new.found.items _
    (omega (arith, count, lt, boxes)) c.in_ok-add_pair.ensures c.loop-rear.invariant
