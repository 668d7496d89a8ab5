use Rattle.std.proofs.Common.{◌≡◌, ◌++◌, drop, string_bytes}
use Rattle.box_view.specs.Look.{place_lines}
use Rattle.box_view.proofs.frame_look.put_place_lines.Given as goal

abbrev pub invariant-loop-at : goal.invariant-loop-at
invariant-loop-at l = string_bytes l.out ++ place_lines l.plan l.names l.at (drop l.at l.places)
    ≡ string_bytes l.fn.out ++ place_lines l.plan l.names 0 l.places
