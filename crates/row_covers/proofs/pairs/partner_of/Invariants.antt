use Rattle.row_covers.specs.Covers.{AreKept}
use Rattle.row_covers.specs.Pairs.{IsAlone}
use Rattle.row_covers.proofs.pairs.partner_of.Given as goal

abbrev pub invariant-loop-two : goal.invariant-loop-two
invariant-loop-two l = record {
  kept : AreKept l.walk l.failed.items;
  alone : IsAlone l.walk l.at l.one l.two;
}
