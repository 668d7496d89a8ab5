use Rattle.std.proofs.Common.{◌≡◌, ◌+◌, ◌++◌, drop, take}
use Rattle.frame_chart.specs.Printing.{drawn_from}
use Rattle.frame_chart.specs.Spans.{span_of}
use Rattle.frame_chart.proofs.drawing.draw.Given as goal

abbrev pub invariant-loop-place : goal.invariant-loop-place
invariant-loop-place l = record {
  same : take l.place l.drawing ++ drawn_from (l.place + 1) l.bridle (drop l.place l.drawing)
      ≡ drawn_from 1 l.bridle l.initial.drawing;
  span : l.span ≡ span_of l.bridle;
}
