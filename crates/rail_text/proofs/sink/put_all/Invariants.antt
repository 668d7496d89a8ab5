use Rattle.std.proofs.Common.{length, ◌-◌, ◌≡◌, ◌≤◌, take}
use Rattle.rail_text.specs.Bytes.{appended}
use Rattle.rail_text.proofs.sink.put_all.Given as goal

abbrev pub invariant-loop-at : goal.invariant-loop-at
invariant-loop-at g l = record {
  within : l.at ≤ length l.bytes;
  taken : g.K.Sink.taken l.sink ≡ appended (g.K.Sink.taken l.fn.sink) (take l.at l.bytes);
  start : l.at ≡ 0 → l.sink ≡ l.fn.sink;
  later : g.K.Sink.faults l.fn.sink ≤ g.K.Sink.faults l.sink;
}

abbrev pub decreases-loop-at : goal.decreases-loop-at
decreases-loop-at g l = length l.bytes - l.at
