use Rattle.std.proofs.Common.{◌≡◌, take}
use Rattle.line_plan.proofs.copying.copied_table.Given as goal

abbrev pub invariant-loop-row : goal.invariant-loop-row
invariant-loop-row l = l.copied ≡ take l.row-index l.row-items
