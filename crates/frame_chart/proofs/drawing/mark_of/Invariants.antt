use Rattle.std.proofs.Common.{◌≡◌, drop}
use Rattle.frame_chart.specs.Printing.{mark_of}
use Rattle.frame_chart.proofs.drawing.mark_of.Given as goal

abbrev pub invariant-loop-dog : goal.invariant-loop-dog
invariant-loop-dog l = mark_of l.lever (drop l.dog-index l.dogs) ≡ mark_of l.lever l.dogs
