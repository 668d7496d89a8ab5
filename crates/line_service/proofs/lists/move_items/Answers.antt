use Rattle.line_service.specs.Lists.{IsMoveData}
use Rattle.line_service.proofs.Listed.{puts_value}
use Rattle.line_service.proofs.lists.move_items.Goals as goal

pub loop-lever-preserved : goal.loop-lever-preserved
loop-lever-preserved c new more =
    c.loop-lever.invariant new
    (puts_value (λ at lever d. IsMoveData c.args.service.now c.args.here lever d) c.args.levers.now
    c.loop-lever.lever-index _ c.in_ok-value.value c.loop-lever.items.items _ new c.loop-lever-test.true
    c.in_ok-value.ensures c.in_ok-push.ensures.items more)
