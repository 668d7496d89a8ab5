use Rattle.std.proofs.Common.{◌≡◌, ◌++◌, drop, string_bytes}
use Rattle.frame_report.specs.Text.{frozens_text}
use Rattle.frame_report.proofs.printing.put_levers.Given as goal

abbrev pub invariant-loop-i : goal.invariant-loop-i
invariant-loop-i l = string_bytes l.out ++ frozens_text l.rows (drop l.i l.levers) (drop l.i l.circles)
    ≡ string_bytes l.initial.out ++ frozens_text l.rows l.levers l.circles
