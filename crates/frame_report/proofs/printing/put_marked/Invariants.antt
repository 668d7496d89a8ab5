use Rattle.std.proofs.Common.{◌≡◌, ◌++◌, drop, string_bytes}
use Rattle.frame_report.specs.Text.{marked_text}
use Rattle.frame_report.proofs.printing.put_marked.Given as goal

abbrev pub invariant-loop-i : goal.invariant-loop-i
invariant-loop-i l = string_bytes l.out ++ marked_text l.does l.marks l.i (drop l.i l.rows)
    ≡ string_bytes l.initial.out ++ marked_text l.does l.marks 0 l.rows
