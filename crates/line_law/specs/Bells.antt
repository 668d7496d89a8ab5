-- The calls on bells.
use Rattle.std.specs.Prelude.{ℕ, ◌+◌, Option, Some, None, ◌==◌, if◌then◌else◌}
use Rattle.block_words.specs.declared.Way.{Way}
use Rattle.line_law.specs.declared.call.Reply.TheVariants.{Rung, BellBusy, Heard, Silent, BellNotYet}
use Rattle.line_law.specs.declared.state.Bell.{Bell}
use Rattle.line_law.specs.declared.state.BoxState.{BoxState}
use Rattle.line_law.specs.Ways.{with_way}
use Rattle.line_law.specs.Decisions.{Told}

-- a bell after so many codes, of which none stands unheard
abbrev pub silent : ℕ → Bell
silent count = record { count = count; unheard = None }

-- ring, by what the bell holds: refused where a code stands unheard; else the count rises, in the box too, and the code
-- stands unheard
abbrev pub rung : BoxState → Way → ℕ → ℕ → Option ℕ → Told Bell
rung here side code count (Some unheard) =
    record { reply = BellBusy unheard count; here = here; word = record { count = count; unheard = Some unheard } }
rung here side code count None =
    record {
      reply = Rung (count + 1);
      here = record here { rung = with_way here.rung side (count + 1) };
      word = record { count = count + 1; unheard = Some code };
    }

-- a box rings a code towards a side, on the bell towards that side
abbrev pub ring : BoxState → Way → ℕ → Bell → Told Bell
ring here side code bell = rung here side code bell.count bell.unheard

-- hear, by what the bell holds: refused where no code stands unheard; else the code is taken off
abbrev pub heard : BoxState → ℕ → Option ℕ → Told Bell
heard here count (Some code) = record { reply = Heard code count; here = here; word = silent count }
heard here count None = record { reply = Silent count; here = here; word = silent count }

-- a box hears a bell
abbrev pub hear : BoxState → Bell → Told Bell
hear here bell = heard here bell.count bell.unheard

-- await_bell, by what the bell holds: refused where that isn't exactly this code; else the code is taken off
abbrev pub awaited : BoxState → ℕ → ℕ → Option ℕ → Told Bell
awaited here code count (Some unheard) =
    if unheard == code
    then record { reply = Heard unheard count; here = here; word = silent count }
    else record {
      reply = BellNotYet (Some unheard) count;
      here = here;
      word = record { count = count; unheard = Some unheard };
    }
awaited here code count None = record { reply = BellNotYet None count; here = here; word = silent count }

-- a box looks whether a bell has rung a code, and hears it
abbrev pub await_bell : BoxState → ℕ → Bell → Told Bell
await_bell here code bell = awaited here code bell.count bell.unheard
