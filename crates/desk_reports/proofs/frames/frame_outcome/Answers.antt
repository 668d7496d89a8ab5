use Rattle.desk_reports.proofs.PlanReports.{plan_makes}
use Rattle.desk_reports.proofs.frames.frame_outcome.Goals as goal

pub returns-clause-told : goal.returns-clause-told
returns-clause-told g c =
    plan_makes _ (λ text. text.items) _ _ _ c.in_ok-plan.ensures.plan c.named_frame-text.ensures.told

pub returns-clause-fault : goal.returns-clause-fault
returns-clause-fault g c failed = absurd (c.named_frame-text.ensures.no_fault failed)
