use native.Mathlib.Omega.{arith}
use Rattle.std.proofs.Common.{ℕ, subst}
use Rattle.std.specs.Prelude.{List}
use Rattle.std.proofs.lemmas.List.{take_all}
use Rattle.std.proofs.lemmas.List.Elements.{All-more}
use Rattle.frame_findings.specs.Findings.{AreReversed, IsReversed}
use Rattle.frame_ways.proofs.walker.Walker.first_normal.Goals as goal

pub loop-lever-preserved : goal.loop-lever-preserved
loop-lever-preserved c =
    All-more (IsReversed c.args.self.now.ends) c.args.levers.now c.loop-lever.lever-index 0 c.loop-lever-test.true
    c.loop-lever.invariant (grind (arith, c.self.view_is, c.deref.ensures.value, c.end_of.ensures, c.in-Reversed.is))

pub returns-clause-none : goal.returns-clause-none
returns-clause-none c none =
    subst (λ (levers : List ℕ). AreReversed levers c.args.self.now.ends)
    (take_all c.loop-lever.lever-index c.args.levers.now c.loop-lever-test.false) c.loop-lever.invariant
