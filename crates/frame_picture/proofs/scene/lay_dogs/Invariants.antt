use Rattle.std.proofs.Common.{◌≡◌, ◌++◌, take}
use Rattle.frame_picture.specs.Scenes.{laid_dogs}
use Rattle.frame_picture.proofs.scene.lay_dogs.Given as goal

abbrev pub invariant-loop-dog : goal.invariant-loop-dog
invariant-loop-dog l = l.laid.items ≡ l.initial.laid.items ++ laid_dogs l.row l.channel (take l.dog-index l.dogs)
