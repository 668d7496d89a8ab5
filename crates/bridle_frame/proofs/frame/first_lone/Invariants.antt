use Rattle.std.proofs.Common.{◌≡◌, drop}
use Rattle.bridle_frame.specs.Frames.{first_lone}
use Rattle.bridle_frame.proofs.frame.first_lone.Given as goal

abbrev pub invariant-loop-number : goal.invariant-loop-number
invariant-loop-number l = first_lone l.lying (drop l.number-index l.numbers) ≡ first_lone l.lying l.numbers
