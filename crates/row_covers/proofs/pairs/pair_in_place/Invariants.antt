use Rattle.row_covers.specs.Covers.{AreKept}
use Rattle.row_covers.specs.Pairs.{AreAlone}
use Rattle.row_covers.proofs.pairs.pair_in_place.Given as goal

abbrev pub invariant-loop-one : goal.invariant-loop-one
invariant-loop-one l = record {
  kept : AreKept l.walk l.failed.items;
  alone : AreAlone l.walk l.at l.one;
}
