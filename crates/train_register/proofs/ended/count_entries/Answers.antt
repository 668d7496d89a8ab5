use Rattle.std.proofs.Common.{rules}
use Rattle.train_register.proofs.Counts.{all_counted, count_few}
use Rattle.train_register.proofs.ended.count_entries.Goals as goal

pub overflow_add-index_mut : goal.overflow_add-index_mut
overflow_add-index_mut c =
    let few =
    count_few c.args.boxes c.loop-entry.entry-index _ c.args.entries.now c.loop-entry.counts.items
    c.index_mut.result.now (search rules) c.loop-entry.invariant c.index_mut.ensures.value in
    search rules

pub returns-clause-counts : goal.returns-clause-counts
returns-clause-counts c =
    all_counted c.args.boxes c.loop-entry.entry-index c.args.entries.now c.loop-entry.counts.items
    c.loop-entry-test.false c.loop-entry.invariant
