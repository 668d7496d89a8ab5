use Rattle.std.proofs.Common.{◌≡◌, ◌≤◌, length}
use Rattle.line_scene.specs.Diagrams.{walk_by}
use Rattle.line_scene.proofs.diagram.walk_over.Given as goal

abbrev pub invariant-loop : goal.invariant-loop
invariant-loop l = record {
  walk : l.walk ≡ walk_by l.starts l.signals l.places l.counter;
  same : length l.walk.spots ≡ length l.walk.drawn;
  rows : l.walk.rows ≤ l.counter;
  columns : l.walk.columns ≤ l.counter;
}
