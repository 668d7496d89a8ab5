use Rattle.std.proofs.Common.{◌≡◌, take}
use Rattle.locking_table.specs.Places.{at_ends}
use Rattle.bridle_frame.specs.Frames.{lying_in_each}
use Rattle.bridle_frame.proofs.frame.lying_in_each.Given as goal

abbrev pub invariant-loop-bridle : goal.invariant-loop-bridle
invariant-loop-bridle l = l.lying.items ≡ lying_in_each (at_ends l.ends) (take l.bridle-index l.bridles)
