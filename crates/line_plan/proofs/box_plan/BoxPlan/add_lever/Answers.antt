use Rattle.std.proofs.Common.{ap, arith}
use Rattle.line_plan.specs.Frames.{BoxFields, frame_size}
use Rattle.line_plan.proofs.Listed.{rising_absent}
use Rattle.line_plan.proofs.box_plan.BoxPlan.add_lever.Goals as goal

pub grow-grown-requires : goal.grow-grown-requires
grow-grown-requires c =
    rw c.self.invariant.0
    (rising_absent 0 c.args.lever.number c.self.inside.levers c.self.invariant.3
    (omega (arith, c.requires, ap (λ (b : BoxFields). frame_size b.levers) c.self.view_is)))
