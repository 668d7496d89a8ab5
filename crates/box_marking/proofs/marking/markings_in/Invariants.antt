use Rattle.std.proofs.Common.{length, take}
use Rattle.box_marking.specs.Markers.{HasMarked}
use Rattle.box_marking.proofs.marking.markings_in.Given as goal

abbrev pub invariant-loop-entry : goal.invariant-loop-entry
invariant-loop-entry l = record {
  marked : HasMarked l.plan l.within (length l.entries) (take l.entry-index l.entries) l.marker;
}
