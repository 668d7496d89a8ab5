use Rattle.std.proofs.Common.{◌≡◌, ◌++◌, length, vec_len, vec_capacity}
use Rattle.std.specs.Vec.Iter.{into_iter_items}
use Rattle.instrument_rule.specs.Calls.{Sits}
use Rattle.instrument_rule.specs.Posts.{plan_of, view_of}
use Rattle.instrument_rule.specs.Told.{LegalFor}
use Rattle.signalman_seats.proofs.Gathering.{Joined}
use Rattle.signalman_seats.proofs.closing.close_line.Given as goal

abbrev pub invariant-loop-man : goal.invariant-loop-man
invariant-loop-man l = record {
  can : (goal.iterator-loop-man).can_next l.man-iterator;
  ends : (goal.iterator-loop-man).is_finite l.man-iterator;
  all : l.yielded ++ into_iter_items l.man-iterator ≡ l.fn.men.items;
  table : l.post.seat.table_id ≡ l.line.table.shared.table_id;
  sits : Sits (plan_of l.line) (view_of l.post);
  legal : LegalFor (view_of l.post).plan (view_of l.post).seen;
  count : vec_len l.registers ≡ length l.yielded;
  room : vec_capacity l.registers ≡ length l.fn.men.items;
  gathered : Joined (view_of l.post) l.yielded l.registers.items;
}
