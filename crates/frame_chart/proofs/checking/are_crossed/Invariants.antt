use Rattle.std.proofs.Common.{◌≡◌, ◌+◌, drop}
use Rattle.frame_chart.specs.Checking.{are_crossed}
use Rattle.frame_chart.specs.Spans.{spans_of}
use Rattle.frame_chart.proofs.checking.are_crossed.Given as goal

abbrev pub invariant-loop-i : goal.invariant-loop-i
invariant-loop-i l = are_crossed (l.i + 1) l.lever (spans_of (drop l.i l.bridles)) l.left
    ≡ are_crossed 1 l.lever (spans_of l.bridles) l.numbers
