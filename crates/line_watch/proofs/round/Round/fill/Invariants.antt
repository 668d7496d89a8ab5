use Rattle.std.proofs.Common.{◌≡◌, ◌+◌, length, take}
use Rattle.line_plan.specs.Sections.{sections_of}
use Rattle.line_watch.specs.Boards.{section_count}
use Rattle.line_watch.specs.Watching.{LooksInTurn, Watches}
use Rattle.line_watch.proofs.round.Round.fill.Given as goal

abbrev pub invariant-loop-number : goal.invariant-loop-number
invariant-loop-number l = record {
  watches : Watches l.line.table.shared.table_id l.line.table.shared.key l.watcher;
  looked : LooksInTurn l.line.table.shared.key (take l.number (sections_of l.line.table.shared.key)) l.self.sights
      l.fn.watcher.view.seen l.watcher.view.seen;
  counted : l.watcher.view.looks ≡ l.fn.watcher.view.looks + l.number;
  full : length l.self.sights ≡ l.number;
  spare : l.self.spare + l.number ≡ section_count l.boxes;
}
