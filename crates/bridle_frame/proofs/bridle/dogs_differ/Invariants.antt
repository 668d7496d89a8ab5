use Rattle.std.proofs.Common.{◌≡◌, drop}
use Rattle.bridle_frame.specs.Seated.{dogs_differ}
use Rattle.bridle_frame.proofs.bridle.dogs_differ.Given as goal

abbrev pub invariant-loop-i : goal.invariant-loop-i
invariant-loop-i l = dogs_differ (drop l.i l.dogs) ≡ dogs_differ l.dogs
