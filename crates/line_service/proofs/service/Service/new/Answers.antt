use Rattle.std.proofs.Common.{rules}
use Rattle.line_service.proofs.Kept.{held_unscripted, kept_begins}
use Rattle.line_service.proofs.service.Service.new.Goals as goal

pub invariant_of-result : goal.invariant_of-result
invariant_of-result c =
    held_unscripted c.args.plan _ _ _ _ (search rules)
    (kept_begins c.args.plan _ _ (search rules) c.in_ok-line.ensures.opening) c.in_ok-earlier.ensures.opening
