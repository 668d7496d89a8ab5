use Rattle.watch_working.proofs.Taking.{Gathered}
use Rattle.watch_working.proofs.watched.gather.Given as goal

abbrev pub invariant-loop-b : goal.invariant-loop-b
invariant-loop-b l = record {
  gathered : Gathered l.line.table.shared.key l.fn.post.seat.me.0.seen l.b l.fn.men l.men;
}
