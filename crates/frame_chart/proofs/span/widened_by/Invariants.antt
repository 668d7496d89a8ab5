use Rattle.std.proofs.Common.{◌≡◌, drop}
use Rattle.frame_chart.specs.Spans.{widened_by}
use Rattle.frame_chart.proofs.span.widened_by.Given as goal

abbrev pub invariant-loop-dog : goal.invariant-loop-dog
invariant-loop-dog l = widened_by l.wide (drop l.dog-index l.dogs) ≡ widened_by l.fn.span l.dogs
