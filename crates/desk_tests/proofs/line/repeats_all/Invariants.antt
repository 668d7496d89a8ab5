use Rattle.desk_tests.specs.Workings.{IsWorked}
use Rattle.desk_tests.proofs.line.repeats_all.Given as goal

abbrev pub invariant-loop-entry : goal.invariant-loop-entry
invariant-loop-entry l = IsWorked l.plan l.line
