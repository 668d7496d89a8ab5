use Rattle.std.proofs.Common.{◌≡◌, drop, length}
use Rattle.bridle_frame.specs.Frames.{counted, one_more}
use Rattle.bridle_frame.proofs.frame.count_in.Given as goal

abbrev pub invariant-loop-number : goal.invariant-loop-number
invariant-loop-number l = record {
  wide : length l.lying ≡ length l.initial.lying;
  same : counted one_more l.lying (drop l.number-index l.numbers) ≡ counted one_more l.initial.lying l.numbers;
}
