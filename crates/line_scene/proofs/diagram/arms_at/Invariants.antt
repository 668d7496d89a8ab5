use Rattle.std.proofs.Common.{◌≡◌, ◌+◌, ◌≤◌, drop}
use Rattle.line_scene.specs.Diagrams.{arms_at}
use Rattle.line_scene.proofs.diagram.arms_at.Given as goal

abbrev pub invariant-loop-signal : goal.invariant-loop-signal
invariant-loop-signal l = record {
  arms : l.arms + arms_at l.place (drop l.signal-index l.signals) ≡ arms_at l.place l.signals;
  most : l.arms ≤ l.signal-index;
}
