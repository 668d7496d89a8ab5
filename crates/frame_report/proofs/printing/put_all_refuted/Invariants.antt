use Rattle.std.proofs.Common.{◌≡◌, ◌++◌, drop, string_bytes}
use Rattle.frame_report.specs.Text.{refuted_text}
use Rattle.frame_report.proofs.printing.put_all_refuted.Given as goal

abbrev pub invariant-loop-lever : goal.invariant-loop-lever
invariant-loop-lever l = string_bytes l.out ++ refuted_text l.numbers (drop l.lever-index l.levers)
    ≡ string_bytes l.fn.out ++ refuted_text l.numbers l.levers
