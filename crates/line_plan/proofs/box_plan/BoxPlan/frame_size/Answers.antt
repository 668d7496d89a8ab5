use Rattle.std.proofs.Common.{◌-◌, List, length, slice_get, option_copied, sym, ap, ◌∙◌}
use Rattle.line_plan.proofs.Finding.{last_is}
use Rattle.line_plan.specs.declared.frame.Lever.{Lever}
use Rattle.line_plan.proofs.box_plan.BoxPlan.frame_size.Goals as goal

pub returns-in-Some : goal.returns-in-Some
returns-in-Some c = rw (sym c.self.view_is) (last_is c.self.inside.levers c.in-Some.lever.now
    (ap (λ (levers : List Lever). slice_get levers (length levers - 1)) (sym c.as_slice.ensures)
    ∙ sym c.last.ensures.value ∙ ap option_copied c.in-Some.is))
