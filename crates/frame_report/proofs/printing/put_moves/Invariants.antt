use Rattle.std.proofs.Common.{◌≡◌, ◌++◌, drop, string_bytes}
use Rattle.frame_report.specs.Text.{moves_text}
use Rattle.frame_report.proofs.printing.put_moves.Given as goal

abbrev pub invariant-loop-lever : goal.invariant-loop-lever
invariant-loop-lever l = string_bytes l.out ++ moves_text l.numbers l.ends (drop l.lever-index l.path)
    ≡ string_bytes l.fn.out ++ moves_text l.numbers l.fn.ends l.path
