use Rattle.std.proofs.Common.{take}
use Rattle.train_register.proofs.Counts.{AreCounts}
use Rattle.train_register.proofs.ended.count_entries.Given as goal

abbrev pub invariant-loop-entry : goal.invariant-loop-entry
invariant-loop-entry l = AreCounts l.boxes (take l.entry-index l.entries) l.counts.items
