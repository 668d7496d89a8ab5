-- What stands at a box, in numbers.
use Rattle.std.specs.Prelude.{◌≡◌, ◌≤◌, ℕ, List, ◌++◌, drop, length, map}
use Rattle.look_records.specs.Things.{things_at}
use Rattle.line_numbers.specs.ThingParts.{thing_numbers}
use Rattle.line_numbers.specs.declared.things.ThingNumbers.{ThingNumbers}
use Rattle.line_service.specs.Services.{line_of}
use Rattle.line_engine.specs.Engines.{EngineFields}

-- what stands at box b, in numbers
abbrev pub numbers_at : EngineFields → ℕ → List ThingNumbers
numbers_at engine b = map thing_numbers (things_at engine.service.plan (line_of engine.service) b)

-- these fill the front of a room, and the rest stays as it was
abbrev pub Fills : {X : Type 0} → List X → List X → List X → Type 0
Fills put old new = new ≡ put ++ drop (length put) old
