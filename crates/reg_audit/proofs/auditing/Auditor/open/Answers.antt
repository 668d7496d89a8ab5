use Rattle.std.proofs.Common.{◌≡◌, ℕ, ◌-◌, length, replicate, ap, ◌∙◌, arith}
use Rattle.line_plan.specs.Plans.{PlanFields}
use Rattle.reg_audit.specs.Marks.{opening_marks}
use Rattle.reg_audit.proofs.EntryAudited.{audited_none}
use Rattle.reg_audit.proofs.HeldKept.{held_first}
use Rattle.reg_audit.proofs.auditing.Auditor.open.Goals as goal

pub returns : goal.returns
returns c =
    let boxes = ap (λ (plan : PlanFields). length plan.boxes) c.plan.view_is in
    let count : c.len-boxes.result ≡ length c.args.plan.now.boxes = omega (arith, boxes) in
    audited_none c.args.plan.now c.in_ok-no_marks.field-0.items c.in_ok-no_trains.field-0.items c.new.result.items
    (c.in_ok-no_marks.ensures ∙ ap (λ (n : ℕ). replicate n opening_marks) count)
    (held_first c.args.plan.now (c.len-boxes.result - 1) c.in_ok-no_trains.field-0.items (omega (arith, boxes))
    c.in_ok-no_trains.ensures) c.new.ensures.items
