use Rattle.std.proofs.Common.{◌≡◌, ◌+◌, ◌++◌, List, length}
use Rattle.line_watch.specs.declared.sight.Sight.{Sight}
use Rattle.line_watch.specs.Watching.{RoundsInTurn, Watches}
use Rattle.line_watch.proofs.board.Board.fill_to_last.Given as goal

abbrev pub invariant-loop : goal.invariant-loop
invariant-loop l = record {
  watches : Watches l.line.table.shared.table_id l.line.table.shared.key l.watcher;
  boxes : l.self.boxes ≡ l.fn.self.boxes;
  left : l.self.left + l.counter ≡ l.fn.self.left;
  filled : (rounds : List (List Sight)) × (l.self.rounds ≡ l.fn.self.rounds ++ rounds)
      × (length rounds ≡ l.counter)
      × RoundsInTurn l.line.table.shared.key rounds l.fn.watcher.view.seen l.watcher.view.seen;
}
