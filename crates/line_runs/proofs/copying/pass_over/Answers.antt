use Rattle.std.proofs.Common.{List, ℕ, subst, sym}
use Rattle.line_runs.specs.Copying.{AreLinesLeft}
use Rattle.line_runs.proofs.Copied.{left_ahead, rest_ahead, some_ahead, spelled_ahead}
use Rattle.line_runs.proofs.copying.pass_over.Goals.{in-Some, in_default}
use Rattle.line_runs.proofs.copying.pass_over.Goals as goal

pub loop-preserved : goal.loop-preserved
loop-preserved c = elim c.match-next.branch [
  | in-Some w ↦
      record {
        ahead = rest_ahead c.loop.counter c.args.walk.now c.loop.invariant.ahead w.in-Some.ensures;
        spelled = (spelled_ahead c.loop.invariant.spelled w.in-Some.ensures).1;
        left =
            subst (λ (lines : List (List ℕ)). AreLinesLeft c.args.plan.now c.next.new.self lines) (sym w.lines-is)
            (left_ahead _ c.meets_conditions.ensures c.loop.invariant.spelled c.loop.invariant.left w.in-Some.ensures
            w.pass.ensures);
      }
  | in_default w ↦
      absurd (some_ahead c.loop.counter c.args.many c.args.walk.now c.loop.invariant.ahead w.in_default.ensures.0
      c.loop-test.true c.requires.many)
]
