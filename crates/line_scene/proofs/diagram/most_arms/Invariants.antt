use Rattle.std.proofs.Common.{◌≡◌, drop}
use Rattle.line_scene.specs.Diagrams.{most_arms}
use Rattle.line_scene.proofs.diagram.most_arms.Given as goal

abbrev pub invariant-loop-rank : goal.invariant-loop-rank
invariant-loop-rank l = most_arms l.most (drop l.rank-index l.ranks) ≡ most_arms 0 l.ranks
