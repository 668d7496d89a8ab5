use Rattle.std.proofs.Common.{◌≡◌, drop}
use Rattle.frame_chart.specs.Checking.{are_sound}
use Rattle.frame_chart.specs.Spans.{spans_of}
use Rattle.frame_chart.proofs.checking.are_sound.Given as goal

abbrev pub invariant-loop-i : goal.invariant-loop-i
invariant-loop-i l = are_sound (spans_of (drop l.i l.bridles)) (drop l.i l.channels)
    ≡ are_sound (spans_of l.bridles) l.channels
