use Rattle.std.proofs.Common.{◌≡◌, ◌++◌, drop, map, string_bytes}
use Rattle.plan_text.specs.Printing.{class_line, printed}
use Rattle.plan_text.proofs.printing.put_classes.Given as goal

abbrev pub invariant-loop-i : goal.invariant-loop-i
invariant-loop-i l =
    string_bytes l.out ++ printed (map (class_line l.plan.codes) (drop l.i l.classes))
    ≡ string_bytes l.initial.out ++ printed (map (class_line l.plan.codes) (drop 4 l.plan.classes))
