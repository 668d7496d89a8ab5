use Rattle.std.proofs.Common.{◌≡◌, drop}
use Rattle.line_law.specs.States.{IsStateOf}
use Rattle.line_report.specs.Verdicts.{heard_all}
use Rattle.line_report.specs.declared.judging.Verdict.TheVariants.{Legal}
use Rattle.line_report.proofs.Turns.{AreAskedFrom}
use Rattle.line_report.proofs.judging.hear_all.Given as goal

abbrev pub invariant-loop-entry : goal.invariant-loop-entry
invariant-loop-entry l = record {
  heard : heard_all l.judge (drop l.entry-index l.entries) ≡ heard_all l.fn.judge l.entries;
  plan : l.judge.plan ≡ l.fn.judge.plan;
  count : l.judge.count ≡ l.entry-index;
  line : IsStateOf l.judge.plan l.judge.state;
  asked : l.judge.verdict ≡ Legal → AreAskedFrom l.judge.plan l.judge.state (drop l.entry-index l.entries);
}
