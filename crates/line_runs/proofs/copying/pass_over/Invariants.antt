use Rattle.std.proofs.Common.{◌≡◌, drop}
use Rattle.std.specs.Prelude.{All}
use Rattle.script_text.specs.Entries.{IsSpelled}
use Rattle.line_runs.specs.Copying.{AreLinesLeft}
use Rattle.line_runs.proofs.copying.pass_over.Given as goal

abbrev pub invariant-loop : goal.invariant-loop
invariant-loop l = record {
  ahead : l.walk ≡ drop l.counter l.fn.walk;
  spelled : All (IsSpelled l.plan) l.walk;
  left : AreLinesLeft l.plan l.walk l.lines;
}
