use Rattle.std.proofs.Common.{◌≡◌, ◌++◌, take, drop}
use Rattle.rail_text.specs.Lines.{cut_of}
use Rattle.rail_text.proofs.lines.cut_at_space.Given as goal

abbrev pub invariant-loop-i : goal.invariant-loop-i
invariant-loop-i l = record {
  front : take l.i l.bytes ++ (cut_of 32 (drop l.i l.bytes)).0 ≡ (cut_of 32 l.bytes).0;
  rest : (cut_of 32 (drop l.i l.bytes)).1 ≡ (cut_of 32 l.bytes).1;
}
