use Rattle.line_report.proofs.MostTrains.{IsCounted}
use Rattle.line_report.proofs.sections.most_in.Given as goal

abbrev pub invariant-loop-entry : goal.invariant-loop-entry
invariant-loop-entry l = IsCounted l.plan l.entries l.section l.entry-index l.trains
