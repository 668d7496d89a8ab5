use Rattle.std.proofs.Common.{◌≡◌, ◌≤◌}
use Rattle.hand_working.specs.Duties.{doings_of, post_of}
use Rattle.hand_working.specs.Works.{AreOnward, Grows}
use Rattle.hand_working.proofs.working.work_lines.Given as goal

abbrev pub invariant-loop : goal.invariant-loop
invariant-loop g l = record {
  post : post_of l.duty ≡ post_of l.fn.duty;
  lines : AreOnward l.fn.manner (post_of l.fn.duty) (doings_of l.fn.duty) (doings_of l.duty)
      (g.N.LineSource.given l.fn.source) (g.N.LineSource.given l.source) (g.K.Sink.taken l.fn.out)
      (g.K.Sink.taken l.out);
  grows : Grows (g.K.Sink.taken l.fn.out) (g.K.Sink.taken l.out);
  told : Grows (g.L.Sink.taken l.fn.told) (g.L.Sink.taken l.told);
  later : g.L.Sink.faults l.fn.told ≤ g.L.Sink.faults l.told;
}
