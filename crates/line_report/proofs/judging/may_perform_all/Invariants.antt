use Rattle.std.proofs.Common.{◌≡◌, drop}
use Rattle.std.specs.Prelude.{◌↔◌}
use Rattle.line_law.specs.Lines.{IsLineOf}
use Rattle.line_report.specs.Asked.{AreAsked}
use Rattle.line_report.proofs.Turns.{AreAskedFrom}
use Rattle.line_report.proofs.judging.may_perform_all.Given as goal

abbrev pub invariant-loop-entry : goal.invariant-loop-entry
invariant-loop-entry l = record {
  line : IsLineOf l.plan l.plain;
  calls : l.plain.calls ≡ l.entry-index;
  asked : AreAskedFrom l.plan l.plain.line (drop l.entry-index l.entries) ↔ AreAsked l.plan l.entries;
}
