use Rattle.std.proofs.Common.{◌≡◌, ℕ, ◌<◌, ◌≤◌, get_or, length, reverse, drop}
use Rattle.line_law.specs.declared.ways.ByWay.{ByWay}
use Rattle.std.specs.Prelude.{Option}
use Rattle.graph_scene.specs.Turns.{bars_from, next_turns}
use Rattle.graph_scene.proofs.bars.bars_back.Given as goal

abbrev pub invariant-loop-number : goal.invariant-loop-number
invariant-loop-number l = record {
  within : l.number ≤ length l.entries;
  bars : reverse l.bars.items ≡ bars_from l.number (drop l.number l.entries);
  count : length l.next.items ≡ length l.plan.boxes;
  next : (b : ℕ) (d : ByWay (Option ℕ)) → b < length l.plan.boxes
      → get_or l.next.items b d ≡ next_turns b l.number (drop l.number l.entries);
}

abbrev pub decreases-loop-number : goal.decreases-loop-number
decreases-loop-number l = l.number
