use Rattle.std.proofs.Common.{[], refl}
use Rattle.line_service.proofs.Kept.{kept_begins}
use Rattle.line_service.proofs.replay.line_behind.Goals as goal

pub replay-requires-clause-kept : goal.replay-requires-clause-kept
replay-requires-clause-kept c = kept_begins c.args.plan.now [] _ refl c.in_ok-line.ensures.opening
