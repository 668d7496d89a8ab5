use Rattle.std.proofs.Common.{◌≡◌, ◌*◌, ◌<◌, ◌≤◌, ◌^◌, All, map}
use Rattle.std.specs.List.{range_with_len}
use Rattle.graph_scene.specs.Moments.{start_by}
use Rattle.graph_scene.proofs.axis.starts_by.Given as goal

abbrev pub invariant-loop-room : goal.invariant-loop-room
invariant-loop-room l = record {
  start : l.start ≡ start_by l.version l.rooms l.room-index;
  starts : l.starts.items ≡ map (start_by l.version l.rooms) (range_with_len 0 l.room-index);
  most : l.start ≤ l.room-index * 2 ^ 40;
  each : All (λ start. start < 2 ^ 60) l.starts.items;
}
