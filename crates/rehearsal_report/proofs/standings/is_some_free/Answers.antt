use Rattle.std.proofs.Common.{sym, ap, ◌∙◌}
use Rattle.rehearsal_report.proofs.Standing.{is_none_free, not_free}
use Rattle.rehearsal_report.proofs.standings.is_some_free.Goals as goal
use Rattle.rehearsal_report.specs.Standings.{is_free}
use Rattle.rehearsal_report.specs.declared.standings.Standing.{Standing}

pub loop-box_no-preserved : goal.loop-box_no-preserved
loop-box_no-preserved c =
    sym
    (not_free c.args.account.now.plan.now c.args.account.now.scripts.now c.args.account.now.rehearsal.now
    c.loop-box_no.box_no c.loop-box_no-test.true
    (ap (λ (standing : Standing). is_free standing) (sym c.standing_at.ensures.exact)
    ∙ (sym c.is_free.ensures ∙ c.if-is_free.false)))
    ∙ c.loop-box_no.invariant

pub returns : goal.returns
returns c =
    is_none_free c.args.account.now.plan.now c.args.account.now.scripts.now c.args.account.now.rehearsal.now
    c.loop-box_no.box_no c.loop-box_no-test.false c.loop-box_no.invariant
