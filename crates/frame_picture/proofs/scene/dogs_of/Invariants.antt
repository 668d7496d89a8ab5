use Rattle.std.proofs.Common.{◌≡◌, ◌++◌, drop}
use Rattle.frame_picture.specs.Scenes.{dogs_of}
use Rattle.frame_picture.proofs.scene.dogs_of.Given as goal

abbrev pub invariant-loop-i : goal.invariant-loop-i
invariant-loop-i l = l.laid.items ++ dogs_of (drop l.i l.bridles) (drop l.i l.channels) ≡ dogs_of l.bridles l.channels
