use Rattle.std.proofs.Common.{◌≡◌, take}
use Rattle.line_plan.proofs.copying.copied_names.Given as goal

abbrev pub invariant-loop-number : goal.invariant-loop-number
invariant-loop-number l = l.copied ≡ take l.number l.names
