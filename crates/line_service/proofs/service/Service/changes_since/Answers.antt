use Rattle.line_service.proofs.Kept.{kept_line}
use Rattle.line_service.proofs.service.Service.changes_since.Goals as goal

pub changes_text-requires-clause-earlier : goal.changes_text-requires-clause-earlier
changes_text-requires-clause-earlier c = kept_line _ _ _ c.meets_conditions.ensures c.in_ok-bring.ensures.brought

pub changes_text-requires-clause-now : goal.changes_text-requires-clause-now
changes_text-requires-clause-now c = kept_line _ _ _ c.meets_conditions.ensures c.self.invariant.worked.kept
