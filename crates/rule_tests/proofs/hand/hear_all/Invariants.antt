use Rattle.std.proofs.Common.{◌≡◌}
use Rattle.instrument_rule.specs.Views.{caller_of}
use Rattle.rule_tests.specs.Hands.{Knows}
use Rattle.rule_tests.proofs.hand.hear_all.Given as goal

abbrev pub invariant-loop : goal.invariant-loop
invariant-loop l = record {
  same : l.listener.hand.post.seat.table_id ≡ l.line.table.shared.table_id;
  knows : Knows l.plan l.listener.hand.post.seat.me.0 l.listener.hand.rung l.listener.hand.calls;
  whose : caller_of l.listener.hand.post.seat.me.0.posts ≡ l.listener.hand.box_no;
}
