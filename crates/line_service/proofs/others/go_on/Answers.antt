use Rattle.std.proofs.Common.{◌∙◌, sym}
use Rattle.line_service.proofs.Going.{goes_no_more}
use Rattle.line_service.proofs.others.go_on.Goals as goal

pub returns-clause-gone : goal.returns-clause-gone
returns-clause-gone c =
    goes_no_more c.args.plan.now c.loop-box_no.entries.items c.loop-box_no.work.roster
    (rw c.deref.ensures.value at (sym c.first_free.ensures ∙ c.in_default.is))
    ∙ c.loop-box_no.invariant.goes
