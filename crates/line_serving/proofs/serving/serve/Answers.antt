use Rattle.std.proofs.Common.{arith, rules}
use Rattle.line_serving.proofs.Served.{any_error, cut_more, onward_more, served_more}
use Rattle.line_serving.proofs.serving.serve.Goals as goal

pub returns-in_err-serve_line-clause-cut : goal.returns-in_err-serve_line-clause-cut
returns-in_err-serve_line-clause-cut g c =
    any_error c.from_residual.result _
    (cut_more _ _ _ _ _ _ _ _ _ c.loop.invariant.lines c.in_err-serve_line.ensures.cut)

pub returns-then-not-branch-clause-served : goal.returns-then-not-branch-clause-served
returns-then-not-branch-clause-served g c =
    served_more _ _ _ _ _ _ _ _ _ c.loop.invariant.lines c.in_ok-serve_line.ensures.served

pub loop-preserved : goal.loop-preserved
loop-preserved g c = record {
  lines = onward_more _ _ _ _ _ _ _ _ _ c.loop.invariant.lines (c.in_ok-serve_line.ensures.onward (search rules));
  later = omega (arith, c.loop.invariant.later, c.serve_line.ensures.later);
}
