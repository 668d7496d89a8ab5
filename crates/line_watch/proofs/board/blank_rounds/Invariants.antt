use Rattle.std.proofs.Common.{◌≡◌, length}
use Rattle.std.specs.Prelude.{All}
use Rattle.line_watch.specs.Boards.{blank_round}
use Rattle.line_watch.proofs.board.blank_rounds.Given as goal

abbrev pub invariant-loop : goal.invariant-loop
invariant-loop l = record {
  count : length l.blank.items ≡ l.counter;
  blank : All (λ round. round ≡ blank_round l.boxes) l.blank.items;
}
