use Rattle.std.proofs.Common.{◌≡◌, ◌++◌, drop, string_bytes}
use Rattle.box_view.specs.Meanings.{code_lines}
use Rattle.box_view.proofs.codes.put_lines.Given as goal

abbrev pub invariant-loop-at : goal.invariant-loop-at
invariant-loop-at l = string_bytes l.out ++ code_lines l.plan l.at (drop l.at l.codes)
    ≡ string_bytes l.fn.out ++ code_lines l.plan 0 l.codes
