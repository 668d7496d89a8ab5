use Rattle.std.proofs.Common.{◌≡◌, [], replicate}
use Rattle.line_service.proofs.roster.Roster.none.Given as goal

abbrev pub invariant-loop : goal.invariant-loop
invariant-loop l = l.boxes.items ≡ replicate l.counter []
