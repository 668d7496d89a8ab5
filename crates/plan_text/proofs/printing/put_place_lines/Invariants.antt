use Rattle.std.proofs.Common.{◌≡◌, ◌++◌, drop, map, string_bytes}
use Rattle.plan_text.specs.Printing.{place_line, printed}
use Rattle.plan_text.proofs.printing.put_place_lines.Given as goal

abbrev pub invariant-loop-number : goal.invariant-loop-number
invariant-loop-number l =
    string_bytes l.out ++ printed (map place_line (drop l.number l.places))
    ≡ string_bytes l.initial.out ++ printed (map place_line l.places)
