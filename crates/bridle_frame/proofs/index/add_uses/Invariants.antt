use Rattle.std.proofs.Common.{◌≡◌, drop, length}
use Rattle.bridle_frame.specs.Frames.{used_by}
use Rattle.bridle_frame.proofs.index.add_uses.Given as goal

abbrev pub invariant-loop-dog : goal.invariant-loop-dog
invariant-loop-dog l = record {
  wide : length l.uses.items ≡ length l.initial.uses.items;
  same :
      used_by l.uses.items l.end l.number (drop l.dog-index l.dogs)
      ≡ used_by l.initial.uses.items l.end l.number l.dogs;
}
