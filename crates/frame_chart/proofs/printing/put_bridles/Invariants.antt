use Rattle.std.proofs.Common.{◌≡◌, ◌+◌, ◌++◌, drop, string_bytes}
use Rattle.frame_chart.specs.Printing.{bridles_text}
use Rattle.frame_chart.proofs.printing.put_bridles.Given as goal

abbrev pub invariant-loop-i : goal.invariant-loop-i
invariant-loop-i l = string_bytes l.out ++ bridles_text (l.i + 1) (drop l.i l.bridles) (drop l.i l.channels)
    ≡ string_bytes l.initial.out ++ bridles_text 1 l.bridles l.channels
