use Rattle.std.proofs.Common.{◌≡◌, ℕ, ◌+◌, ◌<◌, get_or, length, take}
use Rattle.std.specs.Global.{Vec}
use Rattle.graph_scene.specs.declared.deeds.TrainDeed.{TrainDeed}
use Rattle.graph_scene.specs.Lines.{deeds_by}
use Rattle.graph_scene.proofs.lines.part_deeds.Given as goal

abbrev pub invariant-loop-deed : goal.invariant-loop-deed
invariant-loop-deed l = record {
  count : length l.parts.items ≡ l.trains;
  each : (t : ℕ) (d : Vec TrainDeed) → t < l.trains
      → (get_or l.parts.items t d).items ≡ deeds_by (t + 1) (take l.deed-index l.deeds);
}
