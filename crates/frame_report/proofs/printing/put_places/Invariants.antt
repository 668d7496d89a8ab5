use Rattle.std.proofs.Common.{◌≡◌, ◌++◌, drop, string_bytes}
use Rattle.frame_report.specs.Text.{places_text}
use Rattle.frame_report.proofs.printing.put_places.Given as goal

abbrev pub invariant-loop-at : goal.invariant-loop-at
invariant-loop-at l = string_bytes l.out ++ places_text (drop l.at-index l.places)
    ≡ string_bytes l.fn.out ++ places_text l.places
