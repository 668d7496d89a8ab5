-- What a slot owns: of the engine's crate this names only its row.
use base.Fml.{Fml, ftrue}
use base.Stored.{Coded}
use denote.RawPtr.{Ptr}
use Rattle.std.specs.Coded.{coded_option}
use Rattle.std.specs.Prelude.{ℕ, Option, Some, None}
use Rattle.std.specs.Box.Ownership.{box_owns}
use Rattle.std.specs.Global.{Global}
use Rattle.std.specs.contracts.impls.GlobalAllocator.TheImpl.{ghosts}
use Rattle.line_engine.specs.contracts.engine.Engine.{the_row}

-- what a slot holds: an engine, or nothing
abbrev pub Held : Type 0
Held = Option the_row.Denot

-- how the logic stores it
abbrev pub held_coded : Coded Held
held_coded = coded_option the_row.coded

-- a slot with an engine owns its block on the heap, and one with nothing owns nothing
abbrev pub filled : Global → Ptr → Held → Fml
filled alloc at None = ftrue
filled alloc at (Some engine) = box_owns (ghosts.dealloc_token alloc) the_row at engine

-- how many engines a slot holds
abbrev pub count_of : Held → ℕ
count_of None = 0
count_of (Some engine) = 1
