use Rattle.std.proofs.Common.{◌≡◌, ◌≤◌, ◌++◌, All, drop}
use Rattle.line_scene.specs.Diagrams.{ranks_from}
use Rattle.line_scene.proofs.diagram.ranks_of.Given as goal

abbrev pub invariant-loop-at : goal.invariant-loop-at
invariant-loop-at l = record {
  ranks : l.ranks.items ++ ranks_from l.signals l.at (drop l.at l.signals) ≡ ranks_from l.signals 0 l.signals;
  most : All (λ rank. rank ≤ 120) l.ranks.items;
}
