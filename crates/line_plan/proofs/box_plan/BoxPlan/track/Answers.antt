use Rattle.std.proofs.Common.{eqb, sym, ap}
use Rattle.line_plan.proofs.Finding.{found, missing}
use Rattle.line_plan.specs.Frames.{locked_places}
use Rattle.line_plan.proofs.box_plan.BoxPlan.track.Goals as goal

pub returns-in-Some : goal.returns-in-Some
returns-in-Some c =
    rw (sym c.self.view_is, c.as_slice-in-Some.ensures, c.as_slice.ensures)
    (sym (ap locked_places
    (found (λ track. track.lever) (λ k. eqb k c.args.lever) c.self.inside.tracks _ c.in-Some.at
    (cc (c.self.invariant.2, c.place_of.ensures, c.in-Some.is)))))

pub returns-in-None : goal.returns-in-None
returns-in-None c =
    rw (sym c.self.view_is)
    (sym (ap locked_places
    (missing (λ track. track.lever) (λ k. eqb k c.args.lever) c.self.inside.tracks
    (cc (c.self.invariant.2, c.place_of.ensures, c.in-None.is)))))
