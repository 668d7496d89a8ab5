use Rattle.std.proofs.Common.{take}
use Rattle.line_service.specs.Services.{IsKept}
use Rattle.line_service.proofs.replay.replay.Given as goal

abbrev pub invariant-loop-at : goal.invariant-loop-at
invariant-loop-at l = IsKept l.plan (take l.at l.entries) l.line
