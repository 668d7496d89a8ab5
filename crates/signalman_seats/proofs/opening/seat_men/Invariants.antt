use Rattle.std.proofs.Common.{◌≡◌, ◌<◌, ℕ, length, vec_len, vec_capacity}
use Rattle.std.specs.Prelude.{slice_index, slice_index_or}
use Rattle.instrument_rule.specs.Posts.{view_of}
use Rattle.instrument_rule.specs.Views.{first_view}
use Rattle.signalman_seats.specs.Men.{IsFresh, Man}
use Rattle.signalman_seats.proofs.opening.seat_men.Given as goal

abbrev pub invariant-loop-i : goal.invariant-loop-i
invariant-loop-i l = record {
  table : l.first.seat.table_id ≡ l.line.table.shared.table_id;
  view : (view_of l.first) ≡ first_view l.plan;
  count : vec_len l.men ≡ l.i;
  room : vec_capacity l.men ≡ length l.lengths;
  fresh : (k : ℕ) (d : Man) → k < l.i
      → IsFresh l.line.table.shared.table_id l.plan k (slice_index l.lengths k) (slice_index_or l.men.items k d);
}
