use Rattle.line_watch.proofs.Lines.{more_of_board}
use Rattle.line_watch.proofs.printing.put_rounds.Goals as goal

pub loop-place-preserved : goal.loop-place-preserved
loop-place-preserved c =
    more_of_board c.args.plan.now c.args.rounds.now c.loop-place.place c.index-rounds-place.result c.sights.result.now
    _ _ _ c.loop-place-test.true c.index-rounds-place.is c.sights.ensures c.loop-place.invariant
    c.in_ok-put_round.ensures
