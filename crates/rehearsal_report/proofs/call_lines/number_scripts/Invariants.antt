use Rattle.std.proofs.Common.{◌≡◌, take}
use Rattle.rehearsal_report.proofs.call_lines.number_scripts.Given as goal

abbrev pub invariant-loop-text : goal.invariant-loop-text
invariant-loop-text l = l.scripts.items ≡ take l.text-index l.texts
