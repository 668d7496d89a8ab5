use Rattle.std.proofs.Common.{◌≡◌, ◌++◌, ◌<◌, ◌^◌, All, drop}
use Rattle.graph_scene.specs.Moments.{moments, places_by}
use Rattle.graph_scene.proofs.axis.place_entries.Given as goal

abbrev pub invariant-loop-number : goal.invariant-loop-number
invariant-loop-number l = record {
  places : l.places.items
      ++ places_by l.starts (drop l.number l.offsets) l.beginning (moments (drop l.number l.entries))
      ≡ places_by l.starts l.offsets l.beginning (moments l.entries);
  each : All (λ place. place < 2 ^ 61) l.places.items;
}
