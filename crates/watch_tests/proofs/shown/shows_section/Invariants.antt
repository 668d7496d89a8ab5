use Rattle.std.proofs.Common.{◌+◌, ◌≤◌}
use Rattle.watch_tests.proofs.shown.shows_section.Given as goal

abbrev pub invariant-loop-entry : goal.invariant-loop-entry
invariant-loop-entry l = record {
  low : 1 ≤ l.round;
  high : l.round ≤ l.rounds + 1;
}
