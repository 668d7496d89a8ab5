use Rattle.std.proofs.Common.{◌∙◌, refl, sym, ap}
use Rattle.line_plan.specs.Plans.{PlanFields, names_of, names_of_classes, names_of_trains}
use Rattle.line_plan.specs.Upgrades.{upgraded}
use Rattle.plan_text.proofs.Upgraded.{newer_is}
use Rattle.plan_text.proofs.upgrading.upgrade.Goals as goal

pub invariant_of-result : goal.invariant_of-result
invariant_of-result c =
    let is = c.plan.invariant in
    let classes = c.in_ok-copied_classes.ensures ∙ c.as_slice.ensures in
    let boxes = c.in_ok-copied_boxes.ensures ∙ c.as_slice-3.ensures in
    let trains = c.in_ok-copied_trains.ensures ∙ c.as_slice-2.ensures in
    let delay = c.delay_in_seconds.ensures ∙ ap (λ (plan : PlanFields). (upgraded plan).delay) (sym c.plan.view_is) in (
      newer_is _ _ _ _ _ _ _ is.0 delay refl c.in_ok-copied_codes.ensures classes boxes trains,
      c.in_ok-copied_names.ensures ∙ is.1 ∙ ap names_of_classes (sym classes),
      c.in_ok-copied_names-2.ensures ∙ is.2 ∙ ap names_of (sym boxes),
      c.in_ok-copied_names-3.ensures ∙ is.3 ∙ ap names_of_trains (sym trains),
    )
