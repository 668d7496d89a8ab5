use Rattle.std.proofs.Common.{◌≡◌, ◌++◌, take, drop}
use Rattle.locking_table.specs.Words.{cut_of}
use Rattle.locking_table.proofs.words.cut.Given as goal

abbrev pub invariant-loop-i : goal.invariant-loop-i
invariant-loop-i l = record {
  front : take l.i l.bytes ++ (cut_of (drop l.i l.bytes)).0 ≡ (cut_of l.bytes).0;
  rest : (cut_of (drop l.i l.bytes)).1 ≡ (cut_of l.bytes).1;
}
