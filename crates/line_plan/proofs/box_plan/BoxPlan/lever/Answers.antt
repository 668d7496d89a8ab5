use Rattle.std.proofs.Common.{eqb, sym}
use Rattle.line_plan.proofs.Finding.{found, missing}
use Rattle.line_plan.proofs.box_plan.BoxPlan.lever.Goals as goal

pub returns-in-Some : goal.returns-in-Some
returns-in-Some c =
    rw (sym c.self.view_is, c.as_slice.ensures)
    (sym (found (λ lever. lever.number) (λ k. eqb k c.args.number) c.self.inside.levers _ c.in-Some.at
    (cc (c.self.invariant.0, c.place_of.ensures, c.in-Some.is))))

pub returns-in-None : goal.returns-in-None
returns-in-None c =
    rw (sym c.self.view_is)
    (sym (missing (λ lever. lever.number) (λ k. eqb k c.args.number) c.self.inside.levers
    (cc (c.self.invariant.0, c.place_of.ensures, c.in-None.is))))
