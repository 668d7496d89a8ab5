use Rattle.std.proofs.Common.{◌+◌}
use Rattle.journal_records.specs.Objects.{IsEntryData}
use Rattle.line_service.proofs.Listed.{puts_value}
use Rattle.line_service.proofs.lists.entry_items.Goals as goal

pub loop-place-preserved : goal.loop-place-preserved
loop-place-preserved c new more =
    c.loop-place.invariant new
    (puts_value (λ at e d. IsEntryData c.args.plan.now (c.args.before + 1 + at) e d) c.args.entries.now
    c.loop-place.place _ c.in_ok-value.value c.loop-place.items.items _ new c.loop-place-test.true
    c.in_ok-value.ensures c.in_ok-push.ensures.items more)
