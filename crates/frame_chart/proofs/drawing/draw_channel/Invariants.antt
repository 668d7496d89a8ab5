use Rattle.std.proofs.Common.{◌≡◌, drop}
use Rattle.frame_chart.specs.Printing.{drawn}
use Rattle.frame_chart.proofs.drawing.draw_channel.Given as goal

abbrev pub invariant-loop-i : goal.invariant-loop-i
invariant-loop-i l = drawn l.channel l.drawing (drop l.i l.bridles) (drop l.i l.channels)
    ≡ drawn l.channel l.initial.drawing l.bridles l.channels
