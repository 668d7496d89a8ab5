use Rattle.std.proofs.Common.{◌≡◌, drop}
use Rattle.line_scene.specs.Diagrams.{first_start}
use Rattle.line_scene.proofs.walk.first_start.Given as goal

abbrev pub invariant-loop-start : goal.invariant-loop-start
invariant-loop-start l = first_start l.drawn (drop l.start-index l.starts) ≡ first_start l.drawn l.starts
