use Rattle.std.proofs.lemmas.Result.{err_from_is_err_and}
use Rattle.box_session.proofs.Kept.{same_but_work}
use Rattle.box_session.proofs.session.Session.make.Goals as goal

pub returns-in_err-work_again-clause-not_made : goal.returns-in_err-work_again-clause-not_made
returns-in_err-work_again-clause-not_made c =
    let p = err_from_is_err_and c.from_residual.result c.from_residual.ensures.1 in
    rw p.1 (same_but_work _ _ c.in_err-work_again.ensures.not_done)
