use Rattle.line_journal.specs.Keepers.{AreKeepersBelow}
use Rattle.line_journal.proofs.merging.open_keepers.Given as goal

abbrev pub invariant-loop-box_no : goal.invariant-loop-box_no
invariant-loop-box_no l = AreKeepersBelow l.plan l.left l.box_no l.keepers.items
