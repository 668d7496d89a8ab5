use Rattle.std.proofs.Common.{◌≡◌, drop}
use Rattle.graph_scene.specs.Moments.{earliest, moments}
use Rattle.graph_scene.proofs.axis.earliest.Given as goal

abbrev pub invariant-loop-entry : goal.invariant-loop-entry
invariant-loop-entry l =
    earliest l.first (moments (drop l.entry-index l.entries)) ≡ earliest l.moment (moments l.entries)
