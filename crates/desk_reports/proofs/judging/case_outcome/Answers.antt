use Rattle.desk_reports.proofs.Cases.{case_fault, case_judged, on_ok}
use Rattle.desk_reports.proofs.judging.case_outcome.Goals as goal

pub returns-clause-judged : goal.returns-clause-judged
returns-clause-judged g c =
    on_ok c.fetch_report-outcome.result _ _ c.fetch_report-outcome.ensures.plan (λ is.
    case_judged (g.S.Shelf.held c.args.shelf.now) c.args.plan_name.now c.args.journal_name.now c.in_ok-plan.plan is
    c.in_ok-plan.ensures.plan)

pub returns-clause-fault : goal.returns-clause-fault
returns-clause-fault g c h =
    case_fault (g.S.Shelf.held c.args.shelf.now) (g.S.Shelf.faults c.args.shelf.now)
    (g.S.Shelf.faults c.fetch_plan.new.shelf) (g.S.Shelf.faults c.fetch_report-outcome.new.shelf)
    c.args.plan_name.now c.args.journal_name.now c.in_ok-plan.plan c.fetch_plan.ensures.later
    c.in_ok-plan.ensures.plan (c.fetch_report-outcome.ensures.fault h)
