use Rattle.std.proofs.Common.{[]}
use Rattle.desk_tests.specs.Workings.{AreDesksAfter}
use Rattle.desk_tests.proofs.line.push_desks.Given as goal

abbrev pub invariant-loop-box_no : goal.invariant-loop-box_no
invariant-loop-box_no l = AreDesksAfter l.plan [] l.box_no l.desks.items
