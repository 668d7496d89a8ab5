use Rattle.std.proofs.Common.{◌≡◌}
use Rattle.signalman_seats.specs.Asking.{Waited}
use Rattle.instrument_rule.specs.Posts.{plan_of, view_of}
use Rattle.signalman_seats.proofs.looks.look_on.Given as goal

abbrev pub invariant-loop-taken : goal.invariant-loop-taken
invariant-loop-taken l = record {
  table : l.post.seat.table_id ≡ l.initial.post.seat.table_id;
  waited : Waited (plan_of l.line) l.ask.call (view_of l.initial.post) l.taken (view_of l.post);
}
