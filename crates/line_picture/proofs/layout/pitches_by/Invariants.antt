use Rattle.std.proofs.Common.{◌≡◌, ◌<◌, ◌^◌, ◌++◌, All, drop, map}
use Rattle.line_picture.specs.Places.{pitch_of}
use Rattle.line_picture.proofs.layout.pitches_by.Given as goal

abbrev pub invariant-loop-diagram : goal.invariant-loop-diagram
invariant-loop-diagram l = record {
  value : l.pitches.items ++ map pitch_of (drop l.diagram-index l.diagrams) ≡ map pitch_of l.diagrams;
  low : All (λ pitch. pitch < 2 ^ 20) l.pitches.items;
}
