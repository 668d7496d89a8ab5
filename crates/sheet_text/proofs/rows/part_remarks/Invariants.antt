use Rattle.std.proofs.Common.{◌≡◌, ℕ, ◌<◌, get_or, length, take}
use Rattle.std.specs.Global.{Vec}
use Rattle.sheet_text.specs.Rows.{remarks_of}
use Rattle.sheet_text.proofs.rows.part_remarks.Given as goal

abbrev pub invariant-loop-remark : goal.invariant-loop-remark
invariant-loop-remark l = record {
  count : length l.parts.items ≡ l.lines;
  each : (t : ℕ) (d : Vec ℕ) → t < l.lines
      → (get_or l.parts.items t d).items ≡ remarks_of t (take l.remark-index l.remarks);
}
