use Rattle.std.proofs.Common.{arith}
use Rattle.rehearsal_report.proofs.Counting.{count_fits, counted_all, counted_next, counting_begins}
use Rattle.rehearsal_report.proofs.call_numbers.number_calls.Goals as goal

pub loop-entry-init : goal.loop-entry-init
loop-entry-init c =
    counting_begins c.args.boxes c.args.entries.now _ _ (c.in_ok-counts.ensures.items_if_clones_equal (λ y e. e))
    c.new-numbers.ensures.items

pub overflow_add-number : goal.overflow_add-number
overflow_add-number c =
    let few =
    count_fits c.args.boxes c.args.entries.now c.loop-entry.entry-index _ _ _ _ c.loop-entry-test.true c.requires
    c.loop-entry.invariant c.index.ensures in
    omega (arith, few)

pub loop-entry-preserved : goal.loop-entry-preserved
loop-entry-preserved c =
    counted_next c.args.boxes c.args.entries.now c.loop-entry.entry-index _ _ _ _ _ c.loop-entry-test.true c.requires
    c.loop-entry.invariant c.index.ensures c.in_ok-push.ensures.items

pub returns : goal.returns
returns c =
    counted_all c.args.boxes c.args.entries.now c.loop-entry.entry-index _ _ c.loop-entry.invariant (omega arith)
