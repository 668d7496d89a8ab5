use Rattle.std.proofs.Common.{◌≡◌, drop}
use Rattle.line_scene.specs.Diagrams.{place_behind}
use Rattle.line_scene.proofs.walk.place_behind.Given as goal

abbrev pub invariant-loop-signal : goal.invariant-loop-signal
invariant-loop-signal l =
    place_behind l.drawn l.place (drop l.signal-index l.signals) ≡ place_behind l.drawn l.place l.signals
