use Rattle.std.proofs.Common.{◌≡◌, ◌++◌, drop, string_bytes}
use Rattle.frame_report.specs.Text.{redundants_text}
use Rattle.frame_report.proofs.printing.put_redundants.Given as goal

abbrev pub invariant-loop-i : goal.invariant-loop-i
invariant-loop-i l = string_bytes l.out ++ redundants_text l.rows l.i (drop l.i l.rows) (drop l.i l.reports)
    ≡ string_bytes l.initial.out ++ redundants_text l.rows 0 l.rows l.reports
