use Rattle.std.proofs.lemmas.List.{replicate-append-replicate}
use Rattle.line_law.specs.States.{opening_pair}
use Rattle.line_law.proofs.plain.open_pairs.Goals as goal

pub loop-preserved : goal.loop-preserved
loop-preserved c =
    rw (c.in_ok-push.ensures.items, c.loop.invariant, c.open.ensures)
    (replicate-append-replicate c.loop.counter 1 opening_pair)
