use Rattle.line_serving.proofs.Served.{any_error, cut_none, given_cut, given_onward, given_served, served_none}
use Rattle.line_serving.proofs.serving.serve_line.Goals as goal

pub returns-in_err-line-clause-cut : goal.returns-in_err-line-clause-cut
returns-in_err-line-clause-cut g c =
    any_error c.from_residual.result _ (cut_none _ _ _ _ c.in_err-line.ensures.not_given)

pub returns-in-None-clause-served : goal.returns-in-None-clause-served
returns-in-None-clause-served g c = served_none _ _ _ _ (rw c.in-None.is at c.in_ok-line.ensures.given)

pub returns-in-Some-clause-served : goal.returns-in-Some-clause-served
returns-in-Some-clause-served g c =
    given_served c.serve_given.result _ _ _ _ _ _ c.deref.result.now
    (rw c.deref.ensures.value (rw c.in-Some.is at c.in_ok-line.ensures.given)) c.serve_given.ensures.answered

pub returns-in-Some-clause-onward : goal.returns-in-Some-clause-onward
returns-in-Some-clause-onward g c =
    given_onward c.serve_given.result _ _ _ _ _ _ c.deref.result.now
    (rw c.deref.ensures.value (rw c.in-Some.is at c.in_ok-line.ensures.given)) c.serve_given.ensures.answered
    c.serve_given.ensures.onward

pub returns-in-Some-clause-cut : goal.returns-in-Some-clause-cut
returns-in-Some-clause-cut g c =
    given_cut c.serve_given.result _ _ _ _ _ _ c.deref.result.now
    (rw c.deref.ensures.value (rw c.in-Some.is at c.in_ok-line.ensures.given)) c.serve_given.ensures.part
