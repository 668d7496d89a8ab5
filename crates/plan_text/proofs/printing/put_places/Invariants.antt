use Rattle.std.proofs.Common.{◌≡◌, ◌++◌, drop, string_bytes}
use Rattle.locking_table.specs.Words.{spaced}
use Rattle.plan_text.specs.Printing.{place_words}
use Rattle.plan_text.proofs.printing.put_places.Given as goal

abbrev pub invariant-loop-place : goal.invariant-loop-place
invariant-loop-place l =
    string_bytes l.out ++ spaced (place_words l.names (drop l.place-index l.places))
    ≡ string_bytes l.initial.out ++ spaced (place_words l.names l.places)
