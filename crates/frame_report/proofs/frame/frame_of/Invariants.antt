use Rattle.std.proofs.Common.{◌≡◌, All, length, take}
use Rattle.frame_report.specs.Frame.{IsFrameRow, rows_in}
use Rattle.frame_report.proofs.frame.frame_of.Given as goal

abbrev pub invariant-loop-row : goal.invariant-loop-row
invariant-loop-row l = record {
  same : l.frame ≡ rows_in l.numbers (take l.row-index l.row-items);
  fits : All (IsFrameRow (length l.numbers)) l.frame;
}
