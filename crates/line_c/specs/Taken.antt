-- Calls at a handle.
use Rattle.std.specs.Prelude.{Option, Some, None}
use Rattle.line_engine.specs.Engines.{EngineFields}

-- an open line is taken from what it held to what it holds
abbrev pub Takes : Option EngineFields → Option EngineFields → (EngineFields → EngineFields → Type 0) → Type 0
Takes (Some old) (Some new) Is = Is old new
Takes old new Is = ⊥

-- so much is so of what an open line holds
abbrev pub Holds : Option EngineFields → (EngineFields → Type 0) → Type 0
Holds (Some engine) Is = Is engine
Holds None Is = Unit {0}
