use Rattle.std.proofs.Common.{◌≡◌, drop}
use Rattle.frame_chart.specs.Checking.{meets_any}
use Rattle.frame_chart.specs.Spans.{spans_of}
use Rattle.frame_chart.proofs.checking.meets_any.Given as goal

abbrev pub invariant-loop-i : goal.invariant-loop-i
invariant-loop-i l =
    meets_any l.span l.channel (spans_of (drop l.i l.bridles)) (drop l.i l.channels)
    ≡ meets_any l.span l.channel (spans_of l.bridles) l.channels
