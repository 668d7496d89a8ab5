use Rattle.std.proofs.Common.{◌≤◌}
use Rattle.line_serving.specs.Transcripts.{AreOnward}
use Rattle.line_serving.proofs.serving.serve.Given as goal

abbrev pub invariant-loop : goal.invariant-loop
invariant-loop g l = record {
  lines : AreOnward l.fn.service l.service (g.N.RequestSource.given l.fn.source) (g.N.RequestSource.given l.source)
      (g.K.Sink.taken l.fn.out) (g.K.Sink.taken l.out);
  later : g.K.Sink.faults l.fn.out ≤ g.K.Sink.faults l.out;
}
