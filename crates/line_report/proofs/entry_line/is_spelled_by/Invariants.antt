use Rattle.std.proofs.Common.{◌≡◌, take}
use Rattle.line_report.proofs.entry_line.is_spelled_by.Given as goal

abbrev pub invariant-loop-at : goal.invariant-loop-at
invariant-loop-at l = take l.at l.name ≡ take l.at l.word
