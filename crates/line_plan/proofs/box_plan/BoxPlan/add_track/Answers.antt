use Rattle.std.proofs.Common.{◌∙◌, eqb, ap}
use Rattle.std.specs.List.{list_any}
use Rattle.line_plan.specs.Frames.{BoxFields}
use Rattle.line_plan.proofs.Listed.{absent_any}
use Rattle.line_plan.proofs.box_plan.BoxPlan.add_track.Goals as goal

pub grow-grown-requires : goal.grow-grown-requires
grow-grown-requires c =
    rw c.self.invariant.2
    (absent_any (λ track. track.lever) c.args.track.lever c.self.inside.tracks
    (ap (λ (b : BoxFields). list_any (λ track. eqb track.lever c.args.track.lever) b.tracks) c.self.view_is
    ∙ c.requires))
