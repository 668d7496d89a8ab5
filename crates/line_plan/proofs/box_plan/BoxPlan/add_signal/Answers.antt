use Rattle.std.proofs.Common.{◌∙◌, is_some, ap}
use Rattle.line_plan.specs.Frames.{BoxFields, signal_of}
use Rattle.line_plan.proofs.Listed.{absent_map}
use Rattle.line_plan.proofs.box_plan.BoxPlan.add_signal.Goals as goal

pub grow-grown-requires : goal.grow-grown-requires
grow-grown-requires c =
    rw c.self.invariant.1
    (absent_map (λ signal. signal.lever) c.args.signal.lever c.self.inside.signals
    (ap (λ (b : BoxFields). is_some (signal_of b c.args.signal.lever)) c.self.view_is ∙ c.requires))
