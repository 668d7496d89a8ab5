use Rattle.std.proofs.Common.{◌≡◌, ◌++◌}
use Rattle.line_scene.specs.Diagrams.{heads_below}
use Rattle.line_scene.proofs.diagram.add_heads.Given as goal

abbrev pub invariant-loop-place : goal.invariant-loop-place
invariant-loop-place l = l.starts.items ≡ l.fn.starts.items ++ heads_below l.signals l.place
