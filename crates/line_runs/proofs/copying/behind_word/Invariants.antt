use Rattle.std.proofs.Common.{◌≡◌, drop}
use Rattle.line_runs.specs.Copying.{behind_word}
use Rattle.line_runs.proofs.copying.behind_word.Given as goal

abbrev pub invariant-loop-at : goal.invariant-loop-at
invariant-loop-at l = behind_word (drop l.at l.line) ≡ behind_word l.line
