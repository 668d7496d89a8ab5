use Rattle.std.proofs.Common.{◌≡◌, ◌++◌, drop, string_bytes}
use Rattle.std.specs.List.{flat_map}
use Rattle.frame_report.specs.Text.{triangle_line}
use Rattle.frame_report.proofs.printing.put_triangle.Given as goal

abbrev pub invariant-loop-lever : goal.invariant-loop-lever
invariant-loop-lever l = string_bytes l.out ++ flat_map triangle_line (drop l.lever-index l.levers)
    ≡ string_bytes l.fn.out ++ flat_map triangle_line l.levers
