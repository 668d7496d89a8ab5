use Rattle.std.proofs.Common.{◌≡◌, ◌++◌, drop, string_bytes}
use Rattle.sheet_text.specs.Texts.{boxes_from}
use Rattle.sheet_text.proofs.printing.put_boxes.Given as goal

abbrev pub invariant-loop-at : goal.invariant-loop-at
invariant-loop-at l =
    string_bytes l.out ++ boxes_from l.plan l.entries l.only l.at (drop l.at l.plan.boxes)
    ≡ string_bytes l.fn.out ++ boxes_from l.plan l.entries l.only 0 l.plan.boxes
