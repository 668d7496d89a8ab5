use Rattle.std.proofs.Common.{◌≡◌, ◌++◌, drop, string_bytes}
use Rattle.std.specs.List.{flat_map}
use Rattle.frame_chart.specs.Printing.{mark_text}
use Rattle.frame_chart.proofs.printing.put_marks.Given as goal

abbrev pub invariant-loop-mark : goal.invariant-loop-mark
invariant-loop-mark l = string_bytes l.out ++ flat_map mark_text (drop l.mark-index l.drawing) ≡ string_bytes l.fn.out
    ++ flat_map mark_text l.drawing
