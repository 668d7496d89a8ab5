use Rattle.std.proofs.Common.{◌≡◌, map, take}
use Rattle.std.specs.List.{range_with_len}
use Rattle.graph_scene.specs.Moments.{offset_of, rooms_of}
use Rattle.graph_scene.proofs.axis.rooms_of.Given as goal

abbrev pub invariant-loop-entry : goal.invariant-loop-entry
invariant-loop-entry l = record {
  taken : l.taken.items ≡ rooms_of l.plan (take l.entry-index l.entries);
  offsets : l.offsets.items ≡ map (offset_of l.plan l.entries) (range_with_len 0 l.entry-index);
}
