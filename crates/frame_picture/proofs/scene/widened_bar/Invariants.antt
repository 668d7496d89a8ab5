use Rattle.std.proofs.Common.{◌≡◌, drop}
use Rattle.frame_picture.specs.Scenes.{widened_bar}
use Rattle.frame_picture.proofs.scene.widened_bar.Given as goal

abbrev pub invariant-loop-dog : goal.invariant-loop-dog
invariant-loop-dog l = widened_bar l.wide (drop l.dog-index l.dogs) ≡ widened_bar l.fn.bar l.dogs
