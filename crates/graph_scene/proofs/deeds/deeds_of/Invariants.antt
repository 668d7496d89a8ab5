use Rattle.std.proofs.Common.{◌≡◌, ◌++◌, drop}
use Rattle.graph_scene.specs.Deeds.{deeds_from, deeds_of}
use Rattle.graph_scene.proofs.deeds.deeds_of.Given as goal

abbrev pub invariant-loop-number : goal.invariant-loop-number
invariant-loop-number l =
    l.deeds.items ++ deeds_from l.plan l.number (drop l.number l.entries) ≡ deeds_of l.plan l.entries
