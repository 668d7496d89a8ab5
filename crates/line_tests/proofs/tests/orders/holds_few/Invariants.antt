use Rattle.line_law.specs.Lines.{IsLineOf}
use Rattle.line_tests.proofs.tests.orders.holds_few.Given as goal

abbrev pub invariant-loop-entry : goal.invariant-loop-entry
invariant-loop-entry l = IsLineOf l.plan l.plain
