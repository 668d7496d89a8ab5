use Rattle.std.proofs.Common.{◌≡◌, map, take}
use Rattle.line_runs.specs.Copying.{behind_line}
use Rattle.line_runs.proofs.registers.told_lines_of.Given as goal

abbrev pub invariant-loop-text : goal.invariant-loop-text
invariant-loop-text l = l.lines.items ≡ map (λ text. behind_line text.items) (take l.text-index l.texts)
