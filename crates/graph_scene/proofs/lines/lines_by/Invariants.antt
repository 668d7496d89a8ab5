use Rattle.std.proofs.Common.{◌≡◌}
use Rattle.graph_scene.specs.Lines.{lines_by}
use Rattle.graph_scene.proofs.lines.lines_by.Given as goal

abbrev pub invariant-loop-number : goal.invariant-loop-number
invariant-loop-number l = l.lines.items ≡ lines_by l.number l.deeds
