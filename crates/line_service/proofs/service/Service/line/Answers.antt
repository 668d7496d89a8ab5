use Rattle.line_service.proofs.Kept.{seen_line}
use Rattle.line_service.proofs.service.Service.line.Goals as goal

pub returns-clause-line : goal.returns-clause-line
returns-clause-line c =
    seen_line _ _ _ _ c.args.self.now c.self.view_is c.meets_conditions.ensures c.self.invariant.worked.kept
