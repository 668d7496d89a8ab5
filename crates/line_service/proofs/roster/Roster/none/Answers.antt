use Rattle.std.proofs.Common.{[]}
use Rattle.std.proofs.lemmas.List.{replicate-append-replicate}
use Rattle.line_service.proofs.roster.Roster.none.Goals as goal

pub loop-preserved : goal.loop-preserved
loop-preserved c =
    rw (c.in_ok-push.ensures.items, c.loop.invariant, c.none.ensures)
    (replicate-append-replicate c.loop.counter 1 [])
