use Rattle.std.proofs.Common.{List, Some, eqb, get_or, sym, ap, ◌∙◌}
use Rattle.line_plan.specs.declared.signal.Signal.{Signal}
use Rattle.line_plan.proofs.Finding.{found, missing}
use Rattle.line_plan.proofs.box_plan.BoxPlan.signal.Goals as goal

pub returns-in-Some : goal.returns-in-Some
returns-in-Some c =
    rw (sym c.self.view_is)
    (ap Some (c.index-as_slice-at.is
    ∙ ap (λ (xs : List Signal). get_or xs c.in-Some.at c.index-as_slice-at.result) c.as_slice.ensures)
    ∙ sym (found (λ signal. signal.lever) (λ k. eqb k c.args.lever) c.self.inside.signals _ c.in-Some.at
    (cc (c.self.invariant.1, c.place_of.ensures, c.in-Some.is))))

pub returns-in-None : goal.returns-in-None
returns-in-None c =
    rw (sym c.self.view_is)
    (sym (missing (λ signal. signal.lever) (λ k. eqb k c.args.lever) c.self.inside.signals
    (cc (c.self.invariant.1, c.place_of.ensures, c.in-None.is))))
