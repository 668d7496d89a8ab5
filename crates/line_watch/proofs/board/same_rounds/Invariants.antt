use Rattle.std.proofs.Common.{◌≡◌, length}
use Rattle.std.specs.Prelude.{All}
use Rattle.line_watch.specs.Boards.{RoundFields}
use Rattle.line_watch.proofs.board.same_rounds.Given as goal

abbrev pub invariant-loop : goal.invariant-loop
invariant-loop l = record {
  count : length l.rounds.items ≡ l.counter;
  same : All (λ (round : RoundFields). round.sights ≡ l.sights) l.rounds.items;
}
