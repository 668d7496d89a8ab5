use Rattle.std.proofs.Common.{◌≡◌, map, take}
use Rattle.frame_chart.specs.Spans.{span_of}
use Rattle.frame_chart.proofs.span.spans_of.Given as goal

abbrev pub invariant-loop-bridle : goal.invariant-loop-bridle
invariant-loop-bridle l = l.spans.items ≡ map span_of (take l.bridle-index l.bridles)
