use Rattle.std.proofs.Common.{◌≡◌, ◌-◌, ◌≤◌, false, IfSome}
use Rattle.signalman_seats.specs.Asking.{IsMissed, Waited}
use Rattle.instrument_rule.specs.Posts.{plan_of, view_of}
use Rattle.signalman_seats.proofs.looks.decide.Given as goal

abbrev pub invariant-loop-left : goal.invariant-loop-left
invariant-loop-left g l = record {
  table : l.post.seat.table_id ≡ l.initial.post.seat.table_id;
  waited : Waited (plan_of l.line) l.ask.call (view_of l.initial.post) (l.initial.left - l.left)
      (view_of l.post);
  most : l.left ≤ l.initial.left;
  some : 1 ≤ l.left;
  once : l.ask.awaits ≡ false → l.left ≤ 1;
  alone : IfSome l.alone (IsMissed (plan_of l.line) l.ask.call (view_of l.initial.post));
}

abbrev pub decreases-loop-left : goal.decreases-loop-left
decreases-loop-left g l = l.left - 1
