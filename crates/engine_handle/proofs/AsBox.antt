-- The slot and its parts own what a box at the same types owns: of the engine's crate this names only its row
-- and its laws.
use mathlib.Core.List.{[]}
use mathlib.Core.Path.{◌≡◌, refl, sym}
use mathlib.Core.Bool.{true≢false}
use mir.Syntax.{impl, tnil, dnil}
use denote.Signature.{Slot, plain}
use Rattle.std.specs.Prelude.{Some, None, IsSome}
use Rattle.std.specs.contracts.alloc.Global as Heap
use Rattle.std.specs.contracts.impls.GlobalAllocator.TheImpl.{ghosts, dict}
use Rattle.std.proofs.BoxSteps.Form.{Bx}
use Rattle.std.proofs.alloc.Global.TheLaws as heap
use Rattle.line_engine.specs.contracts.engine.Engine as Engine
use Rattle.line_engine.proofs.engine.Engine.TheLaws as engine
use Rattle.engine_handle.specs.Slot.{Held}
use Rattle.engine_handle.specs.contracts.parts.Parts as Parts
use Rattle.engine_handle.specs.contracts.slot.Slot as Slots

-- a box of an engine, as the walks over boxes see it
abbrev pub E : Bx
E = record {
  row = Engine.the_row;
  laws = engine.the_row_laws;
  al = record {
    row = Heap.the_row;
    laws
        = heap.the_row_laws;
    g = ghosts;
    d = dict;
    drops = impl [] tnil dnil;
  };
}

-- a parameter that is a box's parts
abbrev pub FromParts : Slot 0
FromParts = plain (λ _. Parts.the_row Engine.the_row Heap.the_row ghosts)

-- a parameter that is a slot
abbrev pub FromSlot : Slot 0
FromSlot = plain (λ _. Slots.the_row)

-- what a filled slot holds
pub held_some : (h : Held) → IsSome h → (x : Engine.the_row.Denot) × (h ≡ Some x)
held_some None t = absurd (true≢false (sym t))
held_some (Some x) t = (x, refl)
