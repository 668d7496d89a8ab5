use Rattle.line_law.specs.Lines.{IsLineOf}
use Rattle.law_tests.proofs.worked.get_replies.Given as goal

abbrev pub invariant-loop-entry : goal.invariant-loop-entry
invariant-loop-entry l = IsLineOf l.plan l.line
