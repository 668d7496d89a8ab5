use Rattle.std.proofs.Common.{◌≡◌, ◌++◌, drop}
use Rattle.look_records.specs.Things.{places_at}
use Rattle.look_records.proofs.things.add_places.Given as goal

abbrev pub invariant-loop-place : goal.invariant-loop-place
invariant-loop-place l =
    l.things.items ++ places_at l.place (drop l.place l.places) ≡ l.fn.things.items ++ places_at 0 l.places
