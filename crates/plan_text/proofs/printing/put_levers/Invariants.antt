use Rattle.std.proofs.Common.{◌≡◌, ◌++◌, drop, map, string_bytes}
use Rattle.plan_text.specs.Printing.{lever_line, printed}
use Rattle.plan_text.proofs.printing.put_levers.Given as goal

abbrev pub invariant-loop-lever : goal.invariant-loop-lever
invariant-loop-lever l =
    string_bytes l.out ++ printed (map lever_line (drop l.lever-index l.levers))
    ≡ string_bytes l.initial.out ++ printed (map lever_line l.levers)
