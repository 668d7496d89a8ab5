use Rattle.std.proofs.Common.{◌≡◌, drop}
use Rattle.graph_scene.specs.Moments.{latest, moments}
use Rattle.graph_scene.proofs.axis.latest.Given as goal

abbrev pub invariant-loop-entry : goal.invariant-loop-entry
invariant-loop-entry l = latest l.last (moments (drop l.entry-index l.entries)) ≡ latest l.moment (moments l.entries)
