use Rattle.std.proofs.Common.{◌≡◌, ◌++◌, drop, length}
use Rattle.frame_picture.specs.Scenes.{bars_of}
use Rattle.frame_picture.proofs.scene.bars_of.Given as goal

abbrev pub invariant-loop-i : goal.invariant-loop-i
invariant-loop-i l = record {
  same : l.bars.items ++ bars_of (drop l.i l.bridles) (drop l.i l.channels) ≡ bars_of l.bridles l.channels;
  each : length l.bars.items ≡ l.i;
}
