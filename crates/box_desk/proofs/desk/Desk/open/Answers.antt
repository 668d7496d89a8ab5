use Rattle.std.proofs.Common.{ap, length, subst, sym, ◌∙◌}
use Rattle.line_plan.specs.Frames.{BoxFields}
use Rattle.line_plan.specs.Plans.{PlanFields}
use Rattle.line_law.specs.Sound.{IsSound}
use Rattle.line_law.proofs.PlanFacts.{plan_sound}
use Rattle.line_law.specs.States.{opening_box}
use Rattle.box_desk.specs.Boxes.{IsFitted}
use Rattle.box_desk.proofs.Opens.{box_there, opens}
use Rattle.box_desk.proofs.desk.Desk.open.Goals as goal

pub open-requires-clause-sound : goal.open-requires-clause-sound
open-requires-clause-sound c =
    let there = box_there c.args.plan.now c.args.box_no _ _ _ c.index-as_slice-box_no.is c.as_slice.ensures
    (ap (λ (plan : PlanFields). plan.boxes) c.plan.view_is) c.requires in
    subst (λ (box_plan : BoxFields). IsSound box_plan) (sym there)
    (plan_sound c.args.plan.now c.args.box_no c.meets_conditions.ensures c.requires)

pub invariant_of-result : goal.invariant_of-result
invariant_of-result c =
    let there = box_there c.args.plan.now c.args.box_no _ _ _ c.index-as_slice-box_no.is c.as_slice.ensures
    (ap (λ (plan : PlanFields). plan.boxes) c.plan.view_is) c.requires in
    let copied = c.in_ok-copy.ensures in
    let made = c.in_ok-equipment.ensures in
    opens c.args.plan.now c.args.box_no _ _ _ _ c.meets_conditions.ensures c.requires (copied ∙ there)
    (c.in_ok-train_places.ensures) (ap (λ (plan : PlanFields). plan.delay) c.plan.view_is)
    (made.here ∙ ap (λ (box_plan : BoxFields). opening_box (length c.args.plan.now.trains) box_plan)
    (sym copied))
    (subst (λ (box_plan : BoxFields). IsFitted box_plan c.in_ok-equipment.equipment) (sym copied) made.fitted)
