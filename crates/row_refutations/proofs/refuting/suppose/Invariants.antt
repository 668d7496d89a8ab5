use Rattle.std.proofs.Common.{List}
use Rattle.locking_table.specs.declared.places.End.{End}
use Rattle.frame_findings.specs.Findings.{AreReversed}
use Rattle.row_refutations.specs.Known.{Agrees}
use Rattle.row_refutations.proofs.refuting.suppose.Given as goal

abbrev pub invariant-loop-lever : goal.invariant-loop-lever
invariant-loop-lever l = (state : List End) → AreReversed l.levers state → Agrees l.fn.known state → Agrees l.known state
