use Rattle.std.proofs.Common.{◌≡◌, [], drop, length, replicate}
use Rattle.bridle_frame.specs.Frames.{used_by_all}
use Rattle.bridle_frame.proofs.index.index_of.Given as goal

abbrev pub invariant-loop-i : goal.invariant-loop-i
invariant-loop-i l = record {
  wide : length l.uses.items ≡ l.levers;
  same :
      used_by_all l.uses.items l.end l.i (drop l.i l.bridles)
      ≡ used_by_all (replicate l.levers []) l.end 0 l.bridles;
}
