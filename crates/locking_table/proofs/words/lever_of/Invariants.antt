use Rattle.std.proofs.Common.{◌≡◌, ◌≤◌, Some, drop}
use Rattle.locking_table.specs.Reading.{lever_of, lever_on}
use Rattle.locking_table.proofs.words.lever_of.Given as goal

abbrev pub invariant-loop-byte : goal.invariant-loop-byte
invariant-loop-byte l = record {
  few : l.number ≤ 120;
  same : lever_on (Some l.number) (drop l.byte-index l.word) ≡ lever_of l.word;
}
