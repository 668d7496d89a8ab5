use Rattle.std.proofs.Common.{◌≡◌, drop}
use Rattle.line_law.specs.History.{IsLegalFrom, state_after, state_of}
use Rattle.line_law.specs.Lines.{IsLineOf}
use Rattle.line_scene.proofs.performing.perform_all.Given as goal

abbrev pub invariant-loop-entry : goal.invariant-loop-entry
invariant-loop-entry l = record {
  line : IsLineOf l.plan l.line;
  calls : l.line.calls ≡ l.entry-index;
  legal : IsLegalFrom l.plan l.line.line (drop l.entry-index l.entries);
  state : state_after l.plan l.line.line (drop l.entry-index l.entries) ≡ state_of l.plan l.entries;
}
