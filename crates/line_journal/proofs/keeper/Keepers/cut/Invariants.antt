use Rattle.std.proofs.Common.{length}
use Rattle.line_journal.specs.Keepers.{AreCut}
use Rattle.line_journal.proofs.keeper.Keepers.cut.Given as goal

abbrev pub invariant-loop-keeper : goal.invariant-loop-keeper
invariant-loop-keeper l = AreCut l.most l.fn.self l.self-inside.list.items

abbrev pub decreases-loop-keeper : goal.decreases-loop-keeper
decreases-loop-keeper l = length l.self-inside.list.items
