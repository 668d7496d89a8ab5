use Rattle.std.proofs.Common.{◌≡◌, ◌+◌, ◌*◌, ◌<◌, ◌≤◌, ◌^◌, ◌++◌, All, drop}
use Rattle.line_picture.specs.Places.{frames_from}
use Rattle.line_picture.proofs.layout.frames_by.Given as goal

abbrev pub invariant-loop-at : goal.invariant-loop-at
invariant-loop-at l = record {
  value : l.frames.items ++ frames_from l.diagrams l.top l.at (drop l.at l.boxes)
      ≡ frames_from l.diagrams 80 0 l.boxes;
  most : l.top ≤ 80 + l.at * 200000000;
  low : All (λ number. number < 2 ^ 40) l.frames.items;
}
